use Rattle.std.proofs.Common.{◌+◌, ◌%◌, ◌^◌, sym, ◌∙◌, subst, arith}
use mathlib.Core.Option.{none}
use Rattle.atomic_table.specs.Table.{Allows, step}
use Rattle.cd_keep.specs.declared.keep_id.KeepId.{KeepId}
use Rattle.cd_lease.specs.Control.{control_at}
use Rattle.cd_lease.specs.Rule.{Leased}
use Rattle.cd_lease.specs.Steps.{Shares, id_of}
use Rattle.cd_lease.proofs.Counting.{id_from}
use Rattle.cd_lease.proofs.Controls.{shares_allows}
use Rattle.cd_lease.proofs.passing.share_as.Goals as goal

pub fetch_add-requires : goal.fetch_add-requires
fetch_add-requires g c =
    let e = id_from c.args.id (id_of g.B.Asked.block g.B.Asked.serial) c.requires.asked.0 c.requires.asked.1 in (
      c.requires.at.same,
      (let l = c.requires.at.long in let b = c.requires.block in omega arith),
      subst (λ (x : KeepId). Allows (Leased c.args.table.now.key) c.args.table.now.table_id.slots c.args.seat.now.id c.args.seat.now.me (control_at c.args.id.block)
          (λ n. (n + 1) % 2 ^ 64) (Shares x (step c.args.table.now.table_id.slots (control_at c.args.id.block) 1 0 none) c.args.seat.now.me))
          e
          (shares_allows c.args.table.now.key c.args.table.now.table_id.slots c.args.seat.now.id c.args.seat.now.me c.args.id
          c.requires.block c.requires.known c.requires.room c.requires.idle.trying),
    )

pub returns-clause-at : goal.returns-clause-at
returns-clause-at g c = record { same = c.fetch_add.ensures.0 ∙ c.requires.at.same; long = c.requires.at.long }

pub returns-clause-held : goal.returns-clause-held
returns-clause-held g c =
    let e = id_from c.args.id (id_of g.B.Asked.block g.B.Asked.serial) c.requires.asked.0 c.requires.asked.1 in
    let st = step c.args.table.now.table_id.slots (control_at c.args.id.block) 1 0 none in
    let told = subst (λ (x : KeepId). Shares x st c.args.seat.now.me c.fetch_add.result c.fetch_add.new.seat.me) (sym e) c.fetch_add.ensures.2 in
    told.0

pub returns-clause-past : goal.returns-clause-past
returns-clause-past g c =
    let e = id_from c.args.id (id_of g.B.Asked.block g.B.Asked.serial) c.requires.asked.0 c.requires.asked.1 in
    let st = step c.args.table.now.table_id.slots (control_at c.args.id.block) 1 0 none in
    let told = subst (λ (x : KeepId). Shares x st c.args.seat.now.me c.fetch_add.result c.fetch_add.new.seat.me) (sym e) c.fetch_add.ensures.2 in
    λ ne. (told.1 ne).0

pub returns-clause-gone : goal.returns-clause-gone
returns-clause-gone g c =
    let e = id_from c.args.id (id_of g.B.Asked.block g.B.Asked.serial) c.requires.asked.0 c.requires.asked.1 in
    let st = step c.args.table.now.table_id.slots (control_at c.args.id.block) 1 0 none in
    let told = subst (λ (x : KeepId). Shares x st c.args.seat.now.me c.fetch_add.result c.fetch_add.new.seat.me) (sym e) c.fetch_add.ensures.2 in
    λ ne. (told.1 ne).1
