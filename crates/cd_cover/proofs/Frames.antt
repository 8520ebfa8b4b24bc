-- Frames go up from a domain to its parent.
use Rattle.std.proofs.Common.{◌≡◌, List, [], ◌∷◌, ◌++◌, Option, reverse, sym, ap, ◌∙◌}
use Rattle.std.specs.Option.{option_map_or}
use Rattle.std.proofs.lemmas.List.{reverse-append}
use Rattle.cd_tree.specs.declared.domain.NodeId.{NodeId}
use Rattle.cd_tree.specs.declared.domain.Domain.{Domain}
use Rattle.cd_tree.specs.Domains.{Node, node_of}
use Rattle.cd_tree.specs.Scripts.{path_of}
use Rattle.cd_cover.specs.Laws.{FramesGoUp, FramesEnd}
use Rattle.cd_cover.specs.Links.{put_frame, frames_over, frames_up, frames_of}
use Rattle.cd_cover.proofs.Grounds.{views, paths}

reverse_last : (ids : List NodeId) (id : NodeId) → reverse (ids ++ id ∷ []) ≡ id ∷ reverse ids
reverse_last ids id = reverse-append ids (id ∷ [])

-- along a path, and along the same with one domain more
over_path : (domains : List Domain) (id : NodeId) (path : List NodeId) → path_of domains id ≡ path ++ id ∷ []
    → frames_of domains id ≡ frames_over domains id (reverse path)
over_path domains id path is = ap (λ (ids : List NodeId). frames_up domains (reverse ids)) is ∙ ap (frames_up domains) (reverse_last path id)

over_parent : (domains : List Domain) (id parent : NodeId) (path : List NodeId) → path_of domains id ≡ path_of domains parent ++ id ∷ []
    → path_of domains parent ≡ path ++ parent ∷ []
    → frames_of domains id ≡ put_frame id.0 (node_of domains parent) (frames_of domains parent)
over_parent domains id parent path below here =
    over_path domains id (path_of domains parent) below
    ∙ ap (λ (ids : List NodeId). frames_over domains id (reverse ids)) here
    ∙ ap (frames_over domains id) (reverse_last path parent)
    ∙ ap (put_frame id.0 (node_of domains parent)) (sym (over_path domains parent path here))

pub frames_go_up : FramesGoUp
frames_go_up tree is id parent domain above there up here =
    let path : Option NodeId → List NodeId = λ o. option_map_or (path_of tree.domains) o [] in
    let below : path_of tree.domains id ≡ path_of tree.domains parent ++ id ∷ [] =
    paths tree is id domain there ∙ ap (λ (o : Option NodeId). path o ++ id ∷ []) up in
    over_parent tree.domains id parent (path above.parent) below (paths tree is parent above here)
    ∙ ap (λ (o : Option Node). put_frame id.0 o (frames_of tree.domains parent)) (views tree is parent above here)

pub frames_end : FramesEnd
frames_end tree is id domain there up =
    let path : Option NodeId → List NodeId = λ o. option_map_or (path_of tree.domains) o [] in
    over_path tree.domains id [] (paths tree is id domain there ∙ ap (λ (o : Option NodeId). path o ++ id ∷ []) up)
