use Rattle.std.proofs.Common.{rules, ◌≡◌, ℕ, ◌+◌, ◌-◌, ◌<◌, ◌≤◌, List, length, take, drop, ap, subst, ◌∙◌}
use Rattle.cd_field.specs.declared.event_list.Part.{Part}
use Rattle.cd_field.specs.EventLists.{before_part, events_in, events_told}
use Rattle.cd_field.proofs.EventLemmas.{part_rest}
use Rattle.cd_field.proofs.event_list.Parts.rest.Goals as goal

pub returns : goal.returns
returns c =
    let parts : List Part = c.args.self.now.parts.items in
    let part : Part = c.index-part.result.now in
    let i : ℕ = c.find_part-i.result in
    let same : c.as_slice.result.now ≡ parts = c.as_slice.ensures.value in
    let H : List Part → Type 0 = λ v. i < length v in
    let F : List Part → Type 0 = λ v. before_part v i ≤ c.from-k.result in
    let N : List Part → Type 0 = λ v. c.from-k.result < before_part v (i + 1) in
    let R : ℕ → Type 0 = λ n. (0 < length c.behind.result.now) × (events_told c.behind.result.now ≡ take (length c.behind.result.now) (drop n (events_in parts))) in
    let here : i < length parts = subst H same c.find_part-i.ensures.here in
    let first : part.first ≡ before_part parts i =
    ap (λ (v : Part). v.first) c.index-part.ensures ∙ c.args.self.now.numbered.first i part here in
    let cut : c.behind.result.now ≡ drop (c.from-k.result - before_part parts i) part.events.items =
    c.behind.ensures ∙ ap (drop (c.from-k.result - part.first)) c.as_slice-2.ensures.value
    ∙ ap (λ (n : ℕ). drop (c.from-k.result - n) part.events.items) first in
    let whole : c.from-k.result ≡ c.args.k = search rules in
    subst R whole
    (part_rest parts part i c.from-k.result c.behind.result.now here c.index-part.ensures (subst F same c.find_part-i.ensures.first)
    (subst N same c.find_part-i.ensures.next) cut)
