-- A run that came to its end left the words of the text's first region.
use Rattle.std.proofs.Common.{◌≡◌, ℕ, Bool, true, false, List, [], ◌∷◌, ◌++◌, Option, Some, None, Result, slice_get, codes, refl, sym, ap, subst, ◌∙◌, append-nil}
use Rattle.std.specs.Io.KnownBytes.{Consumes, IsAtEnd}
use Rattle.cd_base.specs.Ends.{SinkModel}
use Rattle.cd_tree.specs.declared.document.Document.{Document}
use Rattle.cd_tree.specs.declared.refusal.Refusal.{Refusal}
use Rattle.cd_tree.specs.Laws.{WordsStay}
use Rattle.cd_parse.specs.Ranges.{region_in, range_in, place_in}
use Rattle.cd_parse.specs.Operations.{fill_in, op_in}
use Rattle.cd_parse.specs.Heads.{cd_in, with_region, region_statement, with_domain, domain_in, with_entry_of, how_in, preserve_in, end_in, faults_in, time_in, damage_in, strike_in}
use Rattle.cd_parse.specs.Statements.{with_op, operation_in, statement, statement_in}
use Rattle.cd_parse.specs.Parsing.{taken, read, parse}
use Rattle.cd_tokens.specs.Blocks.{marked_lines}
use Rattle.cd_tokens.specs.Sums.{atom, times, term, plus, expression}
use Rattle.cd_tokens.specs.Names.{name, path}
use Rattle.cd_tokens.specs.Kinds.{kind, kind_set, pattern}
use Rattle.cd_app.specs.declared.status.Status.{Status}
use Rattle.cd_app.specs.Calls.{Call, Meets}
use Rattle.cd_app.specs.Headline.{comes_of_a_run, RunIsTold, RunsAreTold}
use Rattle.cd_app.proofs.RunLemmas.{regions_present}
use Rattle.cd_tests.specs.Look.{regions_in, four_words, HasFourWords, HasFourWordsLeft, FourArePresent, IsRun}

all_taken : (text bytes : List ℕ) (left : Option (List ℕ)) → Consumes (Some text) left bytes → IsAtEnd left → text ≡ bytes
all_taken text bytes None c e = elim c [ ]
all_taken text bytes (Some ys) c e = c ∙ ap (λ (y : List ℕ). bytes ++ y) e ∙ append-nil bytes

regions_left : (had left : Option (List ℕ)) (bytes : List ℕ) → Consumes had left bytes → IsAtEnd left → HasFourWordsLeft had → HasFourWords bytes
regions_left None left bytes c e four = elim four [ ]
regions_left (Some text) left bytes c e four = subst HasFourWords (all_taken text bytes left c e) four

pub four_present : (law : WordsStay) (told : RunsAreTold) (call : Call) (old new : SinkModel) (with_record : Bool) (status : Status)
    → IsRun call.words with_record → comes_of_a_run status ≡ true → Meets call old new status → HasFourWordsLeft call.source_was.left
    → FourArePresent call.machine_now
four_present law told call old new with_record status run e meets four =
    let has : RunIsTold call old new status with_record = told call old new status with_record run e meets in
    let here : HasFourWords has.input.bytes =
    regions_left call.source_was.left call.source_now.left has.input.bytes has.gave.0.0 has.gave.1 four in
    let found : slice_get has.input.document.regions 0 ≡ Some four_words =
    ap (λ (p : Result Document Refusal). slice_get (regions_in p) 0) (sym has.accepted.read) ∙ here in
    record { each = λ i short. regions_present law has.input.document has.input.script call.machine_now has.holds 0 i four_words found short }

-- the word `run` alone gives a run without its record
run_is_a_run : IsRun (codes "run" ∷ []) false
run_is_a_run = refl

pub one_word_runs : (had words : List (List ℕ)) (word : List ℕ) → had ≡ [] → word ≡ codes "run" → words ≡ had ++ word ∷ []
    → IsRun words false
one_word_runs had words word none is all =
    let same : words ≡ codes "run" ∷ [] =
    all ∙ ap (λ (h : List (List ℕ)). h ++ word ∷ []) none ∙ ap (λ (w : List ℕ). w ∷ []) is in
    subst (λ (ws : List (List ℕ)). IsRun ws false) (sym same) run_is_a_run

pub fill_has_four_words : HasFourWords (codes "cd 1\nregion y 4 const 0\ndomain root retry 2 detects flip\npreserve y copy\nfill y 7\nend\n")
unfolding parse read taken statement_in statement operation_in with_op cd_in region_statement with_region domain_in with_domain preserve_in how_in with_entry_of end_in op_in fill_in range_in region_in pattern kind_set kind name expression plus term times atom marked_lines
fill_has_four_words = refl

pub strikes_have_four_words : HasFourWords (codes "cd 1\nregion y 4 const 0\ndomain root retry 2 detects flip\npreserve y copy\nfill y 7\nend\nfaults\nstrike root 1 1 flip y[0] 255\nstrike root 2 1 flip y[0] 1\n")
unfolding parse read taken statement_in statement operation_in with_op cd_in region_statement with_region domain_in with_domain preserve_in how_in with_entry_of end_in faults_in strike_in time_in damage_in op_in fill_in range_in place_in region_in pattern kind_set kind name path expression plus term times atom marked_lines
strikes_have_four_words = refl
