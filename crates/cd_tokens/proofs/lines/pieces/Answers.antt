use Rattle.std.proofs.Common.{◌≡◌, ℕ, List, rules, tests, ap, ◌∙◌, subst}
use Rattle.std.specs.Prelude.{IfOk, filter}
use Rattle.std.specs.List.{slice_split}
use Rattle.std.specs.Slice.Iter as slice
use Rattle.std.proofs.lemmas.Iterator.{YieldsList-from_map, items_from_collect}
use Rattle.std.proofs.lemmas.Iterator.Consumers.{YieldsList-at, YieldsList-from_filter}
use Rattle.std.proofs.lemmas.Iterator.Splits.{YieldsList-from_slice_split}
use Rattle.std.proofs.lemmas.List.{map-id}
use Rattle.cd_tokens.specs.Lines.{is_blank, is_token}
use Rattle.cd_tokens.proofs.lines.pieces.Goals as goal

pub returns : goal.returns
returns c =
    let source = c.filter.ensures.source in
    let all : List (List ℕ) = filter is_token (slice_split is_blank c.args.said.now) in
    subst (λ (tokens : List (List ℕ)). IfOk c.collect.result (λ found. found.items ≡ tokens)) (map-id all)
    (items_from_collect _ c.collect.ensures.ran
    (YieldsList-from_map _ (λ token. token)
    (YieldsList-at c.map.ensures.source
    (YieldsList-from_filter _ _
    (YieldsList-from_slice_split _ _ c.args.said.now (ap slice.split_rest source ∙ c.split.ensures.rest)
    (ap slice.split_done source ∙ c.split.ensures.done) (ap slice.split_callee source ∙ c.split.ensures.closure)
    (λ x r q k. search (rules, tests)))
    c.filter.ensures.closure (λ x r q k. search (rules, tests))))
    c.map.ensures.closure (λ x r q k. search (rules, tests))))
