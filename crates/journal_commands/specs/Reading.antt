-- What the words of a line say. Assumes nothing.
use Rattle.std.specs.Prelude.{ℕ, ◌-◌, ◌^◌, Bool, false, cond, List, Some, None, Ok, Err, codes, Option, Result}
use Rattle.std.specs.Str.{bytes_eq}
use Rattle.fields.specs.Fields.{word_in, number_in, bytes_in}
use Rattle.fields.specs.Lines.{Left, line_of, bind, ended}
use Rattle.fields.specs.Results.{and_then, result_map, OrNoMemory, no_memory as no_memory_in}
use Rattle.fields.specs.declared.faults.Fault.{Fault as WordFault}
use Rattle.journal.specs.Laws.{Op, append, sync, sync_all, prune, read, cut}
use Rattle.journal_commands.specs.declared.commands.Operation.{Operation}
use Rattle.journal_commands.specs.declared.commands.Operation.TheVariants.{Append as AppendOne, Sync as SyncOne, SyncAll as SyncEvery, Prune as PruneBelow, Read as ReadAll, Cut as CutPower}
use Rattle.journal_commands.specs.declared.commands.Command.{Command}
use Rattle.journal_commands.specs.declared.commands.Command.TheVariants.{NewBytes, NewSlots, Operation as Operate, Power as SetPower, Damage as ChangeByte, Show}
use Rattle.journal_commands.specs.declared.faults.Fault.{Fault}
use Rattle.journal_commands.specs.declared.faults.Fault.TheVariants.{Word, Kind}
use Rattle.journal_commands.specs.declared.verbs.Verb.{Verb}
use Rattle.journal_commands.specs.declared.verbs.Verb.TheVariants.{Journal, Append, Sync, SyncAll, Prune, Read, Power, Cut, Damage, Bytes}

-- what is said: a new journal, an operation on the open one, its power, or a change or a look at the bytes of its medium
pub data Said : Type 0 where
  new_bytes : (areas : ℕ) → Said
  new_slots : (slots : ℕ) → Said
  operate : Op → Said
  power : Option ℕ → Said
  damage : (place byte : ℕ) → Said
  show : (from count : ℕ) → Said

-- an operation, with its record's bytes as a list
abbrev pub op_of : Operation → Op
op_of (AppendOne s b) = append s b.items
op_of (SyncOne s) = sync s
op_of SyncEvery = sync_all
op_of (PruneBelow s) = prune s
op_of ReadAll = read
op_of CutPower = cut

abbrev pub said : Command → Said
said (NewBytes n) = new_bytes n
said (NewSlots n) = new_slots n
said (Operate o) = operate (op_of o)
said (SetPower p) = power p
said (ChangeByte i b) = damage i b
said (Show i n) = show i n

-- the verb that a word is; none where it is no word of this part
abbrev pub verb_of : List ℕ → Option Verb
verb_of w =
    cond (bytes_eq w (codes "journal")) (Some Journal)
    (cond (bytes_eq w (codes "append")) (Some Append)
    (cond (bytes_eq w (codes "sync")) (Some Sync)
    (cond (bytes_eq w (codes "sync-all")) (Some SyncAll)
    (cond (bytes_eq w (codes "prune")) (Some Prune)
    (cond (bytes_eq w (codes "read")) (Some Read)
    (cond (bytes_eq w (codes "power")) (Some Power)
    (cond (bytes_eq w (codes "cut")) (Some Cut)
    (cond (bytes_eq w (codes "damage")) (Some Damage)
    (cond (bytes_eq w (codes "bytes")) (Some Bytes) None)))))))))

-- any number of 64 bits
abbrev pub any : ℕ → List ℕ → Result ℕ WordFault
any place w = number_in (2 ^ 64 - 1) place w

-- a section, and what is done with it
abbrev pub by_section : (ℕ → Op) → Left → Result Said WordFault
by_section f = bind any (λ s. ended (operate (f s)))

abbrev pub said_append : Left → Result Said WordFault
said_append = bind any (λ s. bind bytes_in (λ b. ended (operate (append s b))))

-- the power on, or a number of stores
abbrev pub power_of : List ℕ → Result (Option ℕ) WordFault
power_of w = cond (bytes_eq w (codes "on")) (Ok None) (and_then (any 1 w) (λ n. Ok (Some n)))

abbrev pub said_power : Left → Result Said WordFault
said_power = bind word_in (λ w l. and_then (power_of w) (λ p. ended (power p) l))

abbrev pub said_damage : Left → Result Said WordFault
said_damage = bind any (λ i. bind (number_in 255) (λ b. ended (damage i b)))

abbrev pub said_show : Left → Result Said WordFault
said_show = bind any (λ i. bind any (λ n. ended (show i n)))

-- a fault of a word is a fault of the line
abbrev pub in_line : {A : Type 0} → Result A WordFault → Result A Fault
in_line (Ok a) = Ok a
in_line (Err e) = Err (Word e)

-- the kind of a new journal, and how many areas or slots it has
abbrev pub kind_of : Left → Result (List ℕ × ℕ) WordFault
kind_of = bind word_in (λ kind. bind (number_in 1024) (λ n. ended (kind, n)))

-- a new journal of this kind, with so many areas or slots
abbrev pub new_of : List ℕ → ℕ → Result Said Fault
new_of kind n = cond (bytes_eq kind (codes "bytes")) (Ok (new_bytes n)) (cond (bytes_eq kind (codes "slots")) (Ok (new_slots n)) (Err Kind))

abbrev pub said_journal : Left → Result Said Fault
said_journal l = and_then (in_line (kind_of l)) (λ p. new_of p.0 p.1)

-- what the words behind this verb say
abbrev pub said_by : Verb → Left → Result Said Fault
said_by Journal l = said_journal l
said_by Append l = in_line (said_append l)
said_by Sync l = in_line (by_section sync l)
said_by SyncAll l = in_line (ended (operate sync_all) l)
said_by Prune l = in_line (by_section prune l)
said_by Read l = in_line (ended (operate read) l)
said_by Power l = in_line (said_power l)
said_by Cut l = in_line (ended (operate cut) l)
said_by Damage l = in_line (said_damage l)
said_by Bytes l = in_line (said_show l)

-- what a line says, by its first word and those after it; nothing where the first word is another
abbrev pub command : List ℕ → List (List ℕ) → Option (Result Said Fault)
command name ws =
    elim (verb_of name) [
      | None ↦ None
      | Some v ↦ Some (said_by v (line_of ws))
    ]

-- the fault that says that no memory is left
abbrev pub no_memory : Fault → Bool
no_memory (Word e) = no_memory_in e
no_memory fault = false

-- what was read of a line, unless memory ended
abbrev pub IsRead : Option (Result Said Fault) → Option (Result Command Fault) → Type 0
IsRead None None = Unit {0}
IsRead (Some meant) (Some r) = OrNoMemory no_memory (result_map said r) meant
IsRead meant r = ⊥
