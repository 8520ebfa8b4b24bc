-- Each change that a statement makes keeps a draft sound.
use Rattle.std.proofs.Common.{◌≡◌, ℕ, suc, ◌+◌, ◌<◌, ◌≤◌, true, List, [], ◌∷◌, Option, None, Some, Ok, length, subst, arith}
use Rattle.cd_tree.specs.Limits.{items_limit, members_limit, depth_limit, entries_limit}
use Rattle.cd_tree.specs.declared.domain.NodeId.{NodeId}
use Rattle.cd_tree.specs.declared.domain.Domain.{Domain}
use Rattle.cd_tree.specs.declared.refusal.Which.TheVariants as which
use Rattle.cd_tree.proofs.ShapeTests.{shape_says}
use Rattle.cd_tokens.specs.declared.sums.Variable.{Variable}
use Rattle.cd_parse.specs.declared.draft.Level.{Level}
use Rattle.cd_parse.specs.Draft.{DraftModel, takes_domains, add_domain, parent_of}
use Rattle.cd_parse.specs.Heads.{region_of, room_in, room_for_domain, domain_named, entries_of, entry_of}
use Rattle.cd_parse.specs.Statements.{statement_in}
use Rattle.cd_parse.specs.Sound.{IsSound}
use Rattle.cd_parse.proofs.SoundGuards.{room_ok}
use Rattle.cd_parse.proofs.SoundDomains.{no_child}
use Rattle.cd_parse.proofs.SoundChanges.{at_levels, in_domain, op_is_sound, group_is_sound, closed_group_is_sound, entry_is_sound}
use Rattle.cd_parse.proofs.SoundBegins.{Begins, domain_in_body_is_sound, domain_in_group_is_sound, root_is_sound, ended_is_sound}
use Rattle.cd_parse.proofs.SoundHeads.{Empty, empty_at_regions, first_is_sound, second_is_sound, kind_is_sound, region_is_sound, faults_are_sound, fault_is_sound}
use Rattle.cd_parse.proofs.Found.{FoundDomain, KeptByChanges, statement_keeps}

-- ---- a domain begins

begins : (draft : DraftModel) (name : List ℕ) (tries set : ℕ) → FoundDomain draft name tries set
    → Begins draft.kinds draft.domains (parent_of draft.levels) name tries set
begins draft name tries set found =
    record {
      no_path = found.no_path;
      some = found.some;
      few = found.few;
      known = found.known;
      alone = no_child draft.domains (parent_of draft.levels) name found.new;
      room = found.room;
    }

begun_in_group : (draft : DraftModel) (at : ℕ) (group : Option (List NodeId)) (outer : List Level) (name : List ℕ) (tries set : ℕ)
    → IsSound (in_domain draft at group outer) → Begins draft.kinds draft.domains (Some (record { 0 = at })) name tries set
    → suc (suc (length outer)) ≤ depth_limit → room_in group draft.items ≡ Ok tt
    → IsSound (add_domain (domain_named name (Some (record { 0 = at })) tries set) (in_domain draft at group outer))
begun_in_group draft at None outer name tries set sound new deep room =
    domain_in_body_is_sound draft at outer name tries set sound new deep (room_ok which.Items items_limit draft.items tt room)
begun_in_group draft at (Some members) outer name tries set sound new deep room =
    domain_in_group_is_sound draft at members outer name tries set sound new deep (room_ok which.Members members_limit (length members) tt room)

begun_in : (draft : DraftModel) (levels : List Level) (name : List ℕ) (tries set : ℕ) → IsSound (at_levels draft levels)
    → takes_domains draft levels ≡ true → Begins draft.kinds draft.domains (parent_of levels) name tries set
    → length levels < depth_limit → room_for_domain levels draft.items ≡ Ok tt
    → IsSound (add_domain (domain_named name (parent_of levels) tries set) (at_levels draft levels))
begun_in draft [] name tries set sound takes new deep room =
    let none_open : Empty draft.domains [] = empty_at_regions draft.stage draft.domains [] takes sound.staged in
    root_is_sound draft name tries set sound none_open.domains_are new
begun_in draft (level ∷ outer) name tries set sound takes new deep room =
    begun_in_group draft level.domain level.group outer name tries set sound new (omega arith) room

-- ---- every change

sound_changes : KeptByChanges IsSound
sound_changes =
    record {
      first = λ draft sound _ start. first_is_sound draft sound start;
      second = λ draft sound _ start. second_is_sound draft sound start;
      kind = λ draft name halts sound _ found. kind_is_sound draft name halts sound found.stage found.new found.room;
      region = λ draft name size pattern sound _ found.
          region_is_sound draft (region_of name size pattern) (draft.words + size) sound found.stage found.some found.room found.words;
      domain = λ draft name tries set sound _ found.
          begun_in draft draft.levels name tries set sound found.takes (begins draft name tries set found) found.deep found.place;
      entry = λ draft at outer range how sound _ found.
          entry_is_sound draft at None outer (entry_of range how) sound found.full
          (λ domain is. subst (λ (there : Option Domain). entries_of there < entries_limit) is found.room) found.few;
      op = λ draft at outer op sound _ found. op_is_sound draft at outer op sound found.full ((shape_says op).0 found.fit) found.room;
      group = λ draft at outer sound _ few. group_is_sound draft at outer sound few;
      group_end = λ draft at first members outer sound _. closed_group_is_sound draft at (first ∷ members) outer sound (omega arith);
      domain_end = λ draft at outer sound _. ended_is_sound draft at outer sound;
      faults = λ draft sound _ closed. faults_are_sound draft sound closed;
      fault = λ draft fault sound _ found. fault_is_sound draft fault sound found.room;
    }

-- a statement keeps a draft sound
pub statement_keeps_sound : (variables : List Variable) (tokens : List (List ℕ)) (draft next : DraftModel) → IsSound draft
    → statement_in variables tokens draft ≡ Ok next → IsSound next
statement_keeps_sound variables tokens draft next sound = statement_keeps IsSound sound_changes variables tokens draft next sound sound
