use Rattle.std.proofs.Common.{◌≡◌, ◌++◌, ◌∷◌, [], ℕ, List, length, ap, ◌∙◌}
use Rattle.cd_base.specs.declared.place.Range.{Range}
use Rattle.cd_field.specs.Hulls.{HullModel, AreCovered}
use Rattle.cd_field.proofs.LoadLemmas.{Loads, whole_range, loaded_cover, loaded_words, loaded_here}
use Rattle.cd_field.proofs.flat_parts.add_region.Goals as goal

loads : (ranges later : List Range) (hulls after : List HullModel) (number count : ℕ) (words : List ℕ) (hull : HullModel) → length hulls ≡ number
    → later ≡ ranges ++ whole_range number count ∷ [] → after ≡ hulls ++ hull ∷ [] → hull ≡ record { low = 0; words = words; away = [] }
    → AreCovered ranges hulls → Loads ranges later hulls after number count words
loads ranges later hulls after number count words hull long one two is covered = record {
  long = long;
  ranges_are = one;
  hulls_are = two ∙ ap (λ (h : HullModel). hulls ++ h ∷ []) is;
  covered = covered;
}

pub returns-clause-covered : goal.returns-clause-covered
returns-clause-covered c =
    loaded_cover _ _ _ _ c.args.number c.args.region.now.length c.in_ok-words.words.items
    (loads _ _ _ _ c.args.number c.args.region.now.length c.in_ok-words.words.items c.of.result c.requires.count c.in_ok-push-2.ensures.items
    c.in_ok-push.ensures.items c.of.ensures c.requires.covered) c.in_ok-words.ensures.0

pub returns-clause-words : goal.returns-clause-words
returns-clause-words c =
    loaded_words _ _ _ _ c.args.number c.args.region.now.length c.in_ok-words.words.items c.args.region.now.pattern
    (loads _ _ _ _ c.args.number c.args.region.now.length c.in_ok-words.words.items c.of.result c.requires.count c.in_ok-push-2.ensures.items
    c.in_ok-push.ensures.items c.of.ensures c.requires.covered) c.in_ok-words.ensures

pub returns-clause-lost : goal.returns-clause-lost
returns-clause-lost c =
    loaded_here _ _ _ _ c.args.number c.args.region.now.length c.in_ok-words.words.items
    (loads _ _ _ _ c.args.number c.args.region.now.length c.in_ok-words.words.items c.of.result c.requires.count c.in_ok-push-2.ensures.items
    c.in_ok-push.ensures.items c.of.ensures c.requires.covered)
