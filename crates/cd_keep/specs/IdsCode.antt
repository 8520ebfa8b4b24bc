-- How the logic stores a list of ids.
use Rattle.std.specs.Prelude.{ℕ, List, refl}
use Rattle.std.specs.Coded.{Coded, code_by, coded×, coded_ℕ, coded_list}
use Rattle.cd_keep.specs.declared.keep_id.KeepId.{KeepId}

abbrev parts : KeepId → ℕ × ℕ
parts id = (id.block, id.serial)

abbrev of_parts : ℕ × ℕ → KeepId
of_parts p = record { block = p.0; serial = p.1 }

abbrev pub ids_code : Coded (List KeepId)
ids_code = coded_list (code_by (ℕ × ℕ) (coded× coded_ℕ coded_ℕ) parts of_parts (λ id. refl))
