-- Where a domain can be, and which numbers go with each place.
use Rattle.std.specs.Prelude.{ℕ, ◌+◌}

-- idle: not sent. due: a pass has the right to post it. turning: in hand, to be posted. ready: posted. out: in the hand of a pass
-- that claimed it or took it to go on with. waiting: at home, with members that have not arrived. full: at home, and all its
-- members have arrived. arrived: at home with its end. owed, taken, cleared: a member that has arrived, when its parent is full,
-- before it is taken, in hand, and empty again. gone: the root, in the hand of the pass that closed
pub data Where : Type 0 where
  idle due turning ready out waiting full arrived owed taken cleared gone : Where

-- what views list domains for
pub data Sort : Type 0 where
  rights turns holds shuts lasts owes takes clears names posts claims arrives : Sort

-- the phase word: 0 is idle, 1 is out or at rest, 2 is ready
abbrev pub phase : Where → ℕ
phase idle = 0
phase due = 0
phase cleared = 0
phase ready = 2
phase _ = 1

-- a post that no arrival has answered yet, and a claim that none has
abbrev pub behind : Where → ℕ
behind ready = 1
behind out = 1
behind waiting = 1
behind full = 1
behind _ = 0

abbrev pub unmet : Where → ℕ
unmet out = 1
unmet waiting = 1
unmet full = 1
unmet _ = 0

-- how often all views together list a domain that is here, when it has been sent and has arrived t times before
abbrev pub mark : Sort → Where → ℕ → ℕ
mark rights due t = 1
mark rights _ t = 0
mark turns turning t = 1
mark turns _ t = 0
mark holds out t = 1
mark holds _ t = 0
mark shuts gone t = 1
mark shuts _ t = 0
mark lasts full t = 1
mark lasts _ t = 0
mark owes owed t = 1
mark owes _ t = 0
mark takes taken t = 1
mark takes _ t = 0
mark clears cleared t = 1
mark clears _ t = 0
mark names idle t = 0
mark names _ t = 1
mark posts p t = t + behind p
mark claims p t = t + unmet p
mark arrives p t = t

-- a member here has not arrived
abbrev pub ahead : Where → ℕ
ahead due = 1
ahead turning = 1
ahead ready = 1
ahead out = 1
ahead waiting = 1
ahead full = 1
ahead _ = 0

-- a domain here rests at a group; and its members have all arrived
abbrev pub rests : Where → ℕ
rests waiting = 1
rests full = 1
rests _ = 0

abbrev pub ends : Where → ℕ
ends full = 1
ends _ = 0

-- 0 where it is not sent, 1 where it is or has arrived, 2 where its parent is full, 3 where it is the root and closed
abbrev pub side : Where → ℕ
side idle = 0
side owed = 2
side taken = 2
side cleared = 2
side gone = 3
side _ = 1

-- the root's own count word; the root is never where this is 3
abbrev pub seal : Where → ℕ
seal idle = 3
seal owed = 3
seal taken = 3
seal cleared = 3
seal arrived = 0
seal gone = 2
seal _ = 1

-- how often the root has arrived
abbrev pub over : Where → ℕ
over arrived = 1
over gone = 1
over _ = 0

-- what the slot has: nothing, what is out with a pass, a state that is ready, one that waits, one that has ended
pub data Content : Type 0 where
  nothing away fresh waits ended : Content

abbrev pub content : Where → Content
content idle = nothing
content due = nothing
content cleared = nothing
content ready = fresh
content waiting = waits
content full = waits
content arrived = ended
content owed = ended
content _ = away
