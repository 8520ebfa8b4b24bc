use Rattle.std.proofs.Common.{rules, ◌≡◌, ◌<◌, ◌++◌, ◌∷◌, [], List, ℕ, ap, ◌∙◌, string_bytes}
use Rattle.cd_tree.specs.Paths.{path_text_of}
use Rattle.cd_tree.proofs.PathParents.{parent_before}
use Rattle.cd_base.proofs.ListLemmas.{pushed}
use Rattle.cd_tree.proofs.PathTexts.{at_root, below_parent}
use Rattle.cd_tree.proofs.path.+add_path.Goals as goal
use Rattle.cd_tree.proofs.path.+add_path.Goals.{in-Some+in_ok-add_path+in_ok-push_str, in_default}

pub add_path-requires : goal.add_path-requires
add_path-requires t c =
    let before : c.in-Some.parent.0 < c.args.node.0 =
    parent_before c.args.tree.now c.requires.tree c.args.node c.node-domain.result.now c.node-domain.ensures c.in-Some.parent c.in-Some.is in
    search (rules, before)

pub returns : goal.returns
returns t c =
    let all : string_bytes c.match-domain.text ++ c.as_str.result.now ≡ string_bytes c.args.text.now ++ path_text_of c.args.tree.now.domains c.args.node =
    elim c.match-domain.branch [
      | in-Some+in_ok-add_path+in_ok-push_str w ↦
          below_parent c.args.tree.now c.requires.tree c.args.node c.node-domain.result.now c.node-domain.ensures w.in-Some.parent w.in-Some.is
          (string_bytes c.match-domain.text) (string_bytes c.args.text.now) c.as_str.result.now
          (ap string_bytes w.text-is ∙ w.in_ok-push_str.ensures.bytes ∙ ap (λ (front : List ℕ). front ++ 47 ∷ []) w.in_ok-add_path.ensures)
          c.as_str.ensures
      | in_default w ↦
          at_root c.args.tree.now c.requires.tree c.args.node c.node-domain.result.now c.node-domain.ensures w.in_default.is
          (string_bytes c.match-domain.text) (string_bytes c.args.text.now) c.as_str.result.now
          (ap string_bytes w.text-is) c.as_str.ensures
    ] in
    pushed c.push_str-2.result (string_bytes c.push_str-2.new.self) (string_bytes c.match-domain.text) c.as_str.result.now
    (string_bytes c.args.text.now ++ path_text_of c.args.tree.now.domains c.args.node) c.push_str-2.ensures.bytes all
