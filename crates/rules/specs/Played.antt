-- The rules played: calls one after the other, each carried out to its end. Assumes nothing.
use Rattle.std.specs.Prelude.{ℕ, Bool, true, false, ◌&&◌, List, [], ◌∷◌, length, take, None, nat_le}
use Rattle.forms.specs.Writing.{write}
use Rattle.journal.specs.Log.{Log, empty}
use Rattle.provider.specs.Answers.{Answers}
use Rattle.rules.specs.State.{Bytes, Settings, Desk, shut, desk_of}
use Rattle.rules.specs.Acts.{Act, append, sync, prune, sync_all, read, tell, send, block, hand_out, take_back, lodge, fetch, drop_below, hear, sign, make, fail, in_log, at_desk}
use Rattle.rules.specs.Plans.{Event, Answer, Plan}
use Rattle.rules.specs.Calls.{plan}
use Rattle.rules.specs.Runs.{Sys, settle}
use Rattle.rules.specs.Output.{output}

-- whether an act can go through
abbrev pub can_go : Act → Log → Bool
can_go (append s x) v = nat_le v.bound s && nat_le (length (write x)) 1068
can_go (sync s) v = true
can_go (prune s) v = true
can_go sync_all v = true
can_go (read o) v = true
can_go (tell a) v = true
can_go (send t a) v = true
can_go (block x) v = true
can_go (hand_out h) v = true
can_go (take_back h) v = true
can_go (lodge h) v = true
can_go (fetch h) v = true
can_go (drop_below h) v = true
can_go (hear a) v = true
can_go (sign a) v = true
can_go (make c) v = true
can_go fail v = false

-- whether all can, one after the other
abbrev pub can_all : List Act → Log → Bool
can_all [] v = true
can_all (a ∷ acts) v = can_go a v && can_all acts (in_log a v)

-- the journal's value and the slips after acts that all went through
abbrev pub logged : List Act → Log → Log
logged [] v = v
logged (a ∷ acts) v = logged acts (in_log a v)

abbrev pub shuffled : List Act → Desk → Desk
shuffled [] k = k
shuffled (a ∷ acts) k = shuffled acts (at_desk a k)

-- what a call plans, on a journal with no overrun
abbrev pub planned : Answers → Settings → Sys → Event → Plan
planned p s x e = plan p s x.engine x.log None e

-- an engine on an empty journal
abbrev pub new : Sys
new = record { engine = shut; log = empty }

-- what a call leaves that is carried out to its end
abbrev pub played : Answers → Settings → Sys → Event → Sys
played p s x e = record {
  engine = settle (planned p s x e).after x.engine (shuffled (planned p s x e).acts (desk_of x.engine));
  log = logged (planned p s x e).acts x.log;
}

-- a call's answer, how many bytes it wrote, the first three of them (a kind and a length), and whether nothing stood in its way
pub record Said : Type 0 where
  pub answer : Answer
  pub bytes : ℕ
  pub begins : Bytes
  pub done : Bool

abbrev pub said : Answers → Settings → Sys → Event → Said
said p s x e = record {
  answer = (planned p s x e).answer;
  bytes = length (output (planned p s x e).acts);
  begins = take 3 (output (planned p s x e).acts);
  done = can_all (planned p s x e).acts x.log;
}

-- calls one after the other
abbrev pub play : Answers → Settings → Sys → List Event → List Said
play p s x [] = []
play p s x (e ∷ es) = said p s x e ∷ play p s (played p s x e) es
