-- How much room a draft has for what a statement adds. Each statement that is read has it, since its tests hold and the
-- draft before it is sound.
use Rattle.std.specs.Prelude.{◌+◌, ◌<◌, ◌^◌, List, length, All}
use Rattle.cd_tree.specs.declared.domain.Domain.{Domain}

-- each of these domains may have an item more
abbrev pub HaveRoom : List Domain → Type 0
HaveRoom domains = All (λ (domain : Domain). length domain.items + 1 < 2 ^ 32) domains
