-- What a call writes into its output buffer, and that 2,048 bytes are enough. Assumes nothing.
use Rattle.std.specs.Prelude.{◌≡◌, ℕ, ◌/◌, ◌%◌, ◌≤◌, false, List, [], ◌∷◌, ◌++◌, length}
use Rattle.forms.specs.Writing.{write, write_message}
use Rattle.provider.specs.Answers.{Answers}
use Rattle.provider.specs.Laws.{Lawful}
use Rattle.rules.specs.State.{Bytes, Settings}
use Rattle.rules.specs.Acts.{Act, append, sync, prune, sync_all, read, tell, send, block, hand_out, take_back, lodge, fetch, drop_below, hear, sign, make, fail, Space}
use Rattle.rules.specs.Plans.{Event, Answer}
use Rattle.rules.specs.Runs.{Sys, Run, Deed, Call, Sized}
use Rattle.rules.specs.Promises.{is_opening}

-- a number below 65,536 in two bytes, the high one first
abbrev pub two_bytes : ℕ → Bytes
two_bytes n = n / 256 ∷ n % 256 ∷ []

-- an output: one byte for its kind, two for its length, and the payload
abbrev pub framed : ℕ → Bytes → Bytes
framed kind payload = kind ∷ (two_bytes (length payload) ++ payload)

-- what an act writes: 1 an activity that is told, 2 a message to all, 3 a key to block
abbrev pub written : Act → Bytes
written (append s x) = []
written (sync s) = []
written (prune s) = []
written sync_all = []
written (read o) = []
written (tell a) = framed 1 (write a)
written (send t a) = framed 2 (write_message (record { tip = t; ack = a }))
written (block k) = framed 3 k
written (hand_out h) = []
written (take_back h) = []
written (lodge h) = []
written (fetch h) = []
written (drop_below h) = []
written (hear a) = []
written (sign a) = []
written (make c) = []
written fail = []

-- what acts write, in order
abbrev pub output : List Act → Bytes
output [] = []
output (a ∷ acts) = written a ++ output acts

-- In every run, whatever a call other than an opening was asked, and however it ended, it wrote at most 2,048 bytes
abbrev pub OutputFits : Type 0
OutputFits =
    (p : Answers) (s : Settings) (x : Sys) (past : List Deed) → Lawful p → Run p s x past →
    (room : Space) (e : Event) (a : Answer) (done : List Act) (y : Sys) → Sized e → is_opening e ≡ false → Call p s room x e a done y →
    length (output done) ≤ 2048
