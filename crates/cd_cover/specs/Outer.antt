-- The outer references of a domain: the references of it and of the domains below it whose link lies above it.
use Rattle.std.specs.Prelude.{ℕ, suc, Bool, true, false, ◌&&◌, is_none, if◌then◌else◌, List, [], ◌∷◌, ◌++◌}
use Rattle.cd_tree.specs.declared.domain.NodeId.{NodeId}
use Rattle.cd_tree.specs.declared.domain.How.{How}
use Rattle.cd_tree.specs.declared.domain.How.TheVariants.{Copy, Refer, Regen}
use Rattle.cd_tree.specs.declared.domain.Entry.{Entry}
use Rattle.cd_tree.specs.declared.domain.Domain.{Domain}
use Rattle.cd_tree.specs.Domains.{Node, Body, Members, node, stop, run, group, no_more, member}
use Rattle.cd_cover.specs.Links.{Frame, link_in}

abbrev pub is_reference : How → Bool
is_reference Copy = false
is_reference Refer = true
is_reference (Regen pattern) = false

-- the references among a domain's entries, numbered from `at` on, that have no link in the frames up to the outer domain
abbrev pub leading_out : List Frame → NodeId → ℕ → List Entry → List (NodeId × ℕ)
leading_out inner id at [] = []
leading_out inner id at (entry ∷ entries) =
    if is_reference entry.how && is_none (link_in entry.range inner) then (id, at) ∷ leading_out inner id (suc at) entries
    else leading_out inner id (suc at) entries

-- a frame for a search of links alone, to which it makes no difference what was written before
abbrev pub frame_at : NodeId → Domain → Frame
frame_at id domain = record { node = id; entries = domain.entries; before = λ p. false }

abbrev mutual
  pub node_outer : List Frame → Node → List (NodeId × ℕ)
  node_outer inner (node id domain body) = leading_out inner id 0 domain.entries ++ body_outer (frame_at id domain ∷ inner) body

  pub body_outer : List Frame → Body → List (NodeId × ℕ)
  body_outer inner stop = []
  body_outer inner (run op rest) = body_outer inner rest
  body_outer inner (group members rest) = members_outer inner members ++ body_outer inner rest

  pub members_outer : List Frame → Members → List (NodeId × ℕ)
  members_outer inner no_more = []
  members_outer inner (member first rest) = node_outer inner first ++ members_outer inner rest

-- the outer references of a domain, each by its domain and its entry, in preorder
abbrev pub outer_references : Node → List (NodeId × ℕ)
outer_references d = node_outer [] d
