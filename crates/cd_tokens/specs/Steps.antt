-- What the functions of parsing answer.
use Rattle.std.specs.Prelude.{◌≡◌, ℕ, Result, Ok, Err}
use Rattle.cd_tree.specs.declared.refusal.Refusal.{Refusal}
use Rattle.cd_tree.specs.declared.refusal.Refuse.{Refuse}
use Rattle.cd_tree.specs.declared.refusal.Refuse.TheVariants as refuse
use Rattle.cd_tokens.specs.declared.wrong.Wrong.{Wrong}
use Rattle.cd_tokens.specs.declared.wrong.Stop.{Stop}
use Rattle.cd_tokens.specs.declared.wrong.Stop.TheVariants as stop
use Rattle.cd_tokens.specs.Wrongs.{refusal_at}

-- what is wrong is what is wrong with the step; nothing is said where memory ran out
abbrev pub Stops : {A : Type 0} → Stop → Result A Wrong → Type 0
Stops (stop.Wrong wrong) step = step ≡ Err wrong
Stops stop.NoMemory step = Unit {0}

-- what is new is the step's
abbrev pub Steps : {A : Type 0} → A → Result (Unit {0}) Stop → Result A Wrong → Type 0
Steps new (Ok done) step = step ≡ Ok new
Steps new (Err stop) step = Stops stop step

-- the value is the step's
abbrev pub Gives : {A : Type 0} → Result A Stop → Result A Wrong → Type 0
Gives (Ok value) step = step ≡ Ok value
Gives (Err stop) step = Stops stop step

-- what is answered where a step at this line stops
abbrev pub stopped_at : ℕ → Stop → Refuse
stopped_at line (stop.Wrong wrong) = refuse.Refused (refusal_at line wrong)
stopped_at line stop.NoMemory = refuse.NoMemory

-- the refusal is that of parsing; nothing is said where memory ran out
abbrev pub Refuses : {A : Type 0} → Refuse → Result A Refusal → Type 0
Refuses (refuse.Refused refusal) parsed = parsed ≡ Err refusal
Refuses refuse.NoMemory parsed = Unit {0}

-- what is new is what parsing gives
abbrev pub Reads : {A : Type 0} → A → Result (Unit {0}) Refuse → Result A Refusal → Type 0
Reads new (Ok done) parsed = parsed ≡ Ok new
Reads new (Err refuse) parsed = Refuses refuse parsed

-- the value is what parsing gives
abbrev pub Answers : {A : Type 0} → Result A Refuse → Result A Refusal → Type 0
Answers (Ok value) parsed = parsed ≡ Ok value
Answers (Err refuse) parsed = Refuses refuse parsed
