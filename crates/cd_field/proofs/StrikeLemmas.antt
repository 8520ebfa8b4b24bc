-- Lemmas on the faults of a script that strike, one fault after the other.
use Rattle.std.proofs.Common.{◌≡◌, ℕ, ◌+◌, ◌<◌, ◌≤◌, Bool, true, false, List, ◌∷◌, length, drop, get_or, sym, ap, ◌∙◌, bit_or, if◌then◌else◌}
use Rattle.std.specs.Int.Bits.{or_zero_r}
use Rattle.std.proofs.lemmas.List.{drop_more, drop_all}
use Rattle.cd_base.specs.Words.{Words, struck_word}
use Rattle.cd_tree.specs.declared.domain.NodeId.{NodeId}
use Rattle.cd_tree.specs.declared.document.Fault.{Fault}
use Rattle.cd_tree.specs.KindSets.{only_kind, with_kind}
use Rattle.cd_tree.proofs.KindLemmas.{bit_or-assoc}
use Rattle.cd_tree.specs.Scripts.{strikes_at, struck, kinds_of, words_struck}

-- ---- the faults from an index on

struck_from : (faults : List Fault) (i : ℕ) (d : Fault) (id : NodeId) (begin point : ℕ) (strikes : Bool) → i < length faults
    → strikes ≡ strikes_at id begin point (get_or faults i d)
    → struck (drop i faults) id begin point
    ≡ (if strikes then get_or faults i d ∷ struck (drop (i + 1) faults) id begin point else struck (drop (i + 1) faults) id begin point)
struck_from faults i d id begin point strikes h e =
    let fault : Fault = get_or faults i d in
    let rest : List Fault = struck (drop (i + 1) faults) id begin point in
    ap (λ (fs : List Fault). struck fs id begin point) (drop_more faults i d h)
    ∙ ap (λ (b : Bool). if b then fault ∷ rest else rest) (sym e)

struck_hit : (faults : List Fault) (i : ℕ) (d : Fault) (id : NodeId) (begin point : ℕ) (strikes : Bool) → i < length faults
    → strikes ≡ strikes_at id begin point (get_or faults i d) → strikes ≡ true
    → get_or faults i d ∷ struck (drop (i + 1) faults) id begin point ≡ struck (drop i faults) id begin point
struck_hit faults i d id begin point strikes h e t = sym (struck_from faults i d id begin point true h (sym t ∙ e))

pub struck_miss : (faults : List Fault) (i : ℕ) (d : Fault) (id : NodeId) (begin point : ℕ) (strikes : Bool) → i < length faults
    → strikes ≡ strikes_at id begin point (get_or faults i d) → strikes ≡ false
    → struck (drop (i + 1) faults) id begin point ≡ struck (drop i faults) id begin point
struck_miss faults i d id begin point strikes h e t = sym (struck_from faults i d id begin point false h (sym t ∙ e))

pub words_hit : (faults : List Fault) (i : ℕ) (d : Fault) (id : NodeId) (begin point : ℕ) (strikes : Bool) → i < length faults
    → strikes ≡ strikes_at id begin point (get_or faults i d) → strikes ≡ true
    → (was now : Words) → now ≡ struck_word was (get_or faults i d).place (get_or faults i d).mask
    → words_struck (struck (drop (i + 1) faults) id begin point) now ≡ words_struck (struck (drop i faults) id begin point) was
words_hit faults i d id begin point strikes h e t was now c =
    ap (words_struck (struck (drop (i + 1) faults) id begin point)) c
    ∙ ap (λ (fs : List Fault). words_struck fs was) (struck_hit faults i d id begin point strikes h e t)

pub kinds_hit : (faults : List Fault) (i : ℕ) (d : Fault) (id : NodeId) (begin point : ℕ) (strikes : Bool) → i < length faults
    → strikes ≡ strikes_at id begin point (get_or faults i d) → strikes ≡ true
    → (was now : ℕ) → now ≡ with_kind was (get_or faults i d).kind
    → bit_or now (kinds_of (struck (drop (i + 1) faults) id begin point)) ≡ bit_or was (kinds_of (struck (drop i faults) id begin point))
kinds_hit faults i d id begin point strikes h e t was now c =
    let rest : ℕ = kinds_of (struck (drop (i + 1) faults) id begin point) in
    ap (λ (n : ℕ). bit_or n rest) c ∙ bit_or-assoc was (only_kind (get_or faults i d).kind) rest
    ∙ ap (λ (fs : List Fault). bit_or was (kinds_of fs)) (struck_hit faults i d id begin point strikes h e t)

-- none are left
pub kinds_none : (faults : List Fault) (i : ℕ) (id : NodeId) (begin point kinds : ℕ) → length faults ≤ i
    → kinds ≡ bit_or kinds (kinds_of (struck (drop i faults) id begin point))
kinds_none faults i id begin point kinds h =
    sym (or_zero_r kinds) ∙ ap (λ (fs : List Fault). bit_or kinds (kinds_of (struck fs id begin point))) (sym (drop_all i faults h))

-- ---- faults that all strike, one by one

abbrev pub no_fault : Fault
no_fault = record { node = record { 0 = 0 }; begin = 0; item = 0; kind = record { 0 = 0 }; place = record { region = 0; index = 0 }; mask = 0 }

pub words_one : (hits : List Fault) (i : ℕ) (d : Fault) (was now : Words) → i < length hits
    → now ≡ struck_word was (get_or hits i d).place (get_or hits i d).mask
    → words_struck (drop (i + 1) hits) now ≡ words_struck (drop i hits) was
words_one hits i d was now short c =
    ap (words_struck (drop (i + 1) hits)) c ∙ sym (ap (λ (fs : List Fault). words_struck fs was) (drop_more hits i d short))

pub kinds_one : (hits : List Fault) (i : ℕ) (d : Fault) (was now : ℕ) → i < length hits → now ≡ with_kind was (get_or hits i d).kind
    → bit_or now (kinds_of (drop (i + 1) hits)) ≡ bit_or was (kinds_of (drop i hits))
kinds_one hits i d was now short c =
    ap (λ (n : ℕ). bit_or n (kinds_of (drop (i + 1) hits))) c
    ∙ bit_or-assoc was (only_kind (get_or hits i d).kind) (kinds_of (drop (i + 1) hits))
    ∙ sym (ap (λ (fs : List Fault). bit_or was (kinds_of fs)) (drop_more hits i d short))

pub kinds_all : (hits : List Fault) (i kinds : ℕ) → length hits ≤ i → kinds ≡ bit_or kinds (kinds_of (drop i hits))
kinds_all hits i kinds past = sym (or_zero_r kinds) ∙ ap (λ (fs : List Fault). bit_or kinds (kinds_of fs)) (sym (drop_all i hits past))
