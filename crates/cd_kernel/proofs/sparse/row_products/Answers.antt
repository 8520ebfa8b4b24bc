use Rattle.std.proofs.Common.{◌≡◌, ◌+◌, ◌<◌, length, ap, sym, ◌∙◌, arith}
use Rattle.cd_base.specs.Words.{Words, word_of}
use Rattle.cd_tree.specs.Operations.{length_of}
use Rattle.cd_field.proofs.RunLemmas.{words_long}
use Rattle.cd_kernel.proofs.Rows.{row_of_words}
use Rattle.cd_kernel.proofs.sparse.row_products.Goals as goal

pub rows_of-requires-clause-inside : goal.rows_of-requires-clause-inside
rows_of-requires-clause-inside g c =
    let w : Words = (g.F.Field.model c.args.field.now).words in
    let long : length c.in-Some.lists.starts.now ≡ length_of c.args.s = words_long w c.args.s c.in-Some.lists.starts.now c.in-Some.ensures.starts in
    omega (arith, long, c.requires.inside)

pub rows_of-requires-clause-same : goal.rows_of-requires-clause-same
rows_of-requires-clause-same g c =
    let w : Words = (g.F.Field.model c.args.field.now).words in
    words_long w c.args.c c.in-Some.lists.columns.now c.in-Some.ensures.columns
    ∙ c.requires.same
    ∙ sym (words_long w c.args.v c.in-Some.lists.values.now c.in-Some.ensures.values)

pub returns-in-Some : goal.returns-in-Some
returns-in-Some g c j short =
    let w : Words = (g.F.Field.model c.args.field.now).words in
    let inside : c.args.at + j + 1 < length_of c.args.s = omega (arith, c.requires.inside) in
    c.rows_of.ensures j short
    ∙ ap word_of (row_of_words w c.args.s c.args.c c.args.v c.args.x (c.args.at + j) c.in-Some.lists.starts.now c.in-Some.lists.columns.now
    c.in-Some.lists.values.now c.in-Some.lists.vector.now inside c.requires.same c.in-Some.ensures.starts c.in-Some.ensures.columns
    c.in-Some.ensures.values c.in-Some.ensures.vector)
