-- Writing one part behind another into a lent buffer. Assumes nothing.
use Rattle.std.specs.Prelude.{◌≡◌, ℕ, ◌+◌, ◌≤◌, List, ◌++◌, length, take, drop}
use Rattle.forms.specs.declared.writer.Writer.{Writer}

-- n bytes fit behind what is written
abbrev pub HasRoom : ℕ → Writer → Type 0
HasRoom n w = w.at + n ≤ length w.out.now

-- bs stand behind what was written, in the same buffer, and behind them what stood there
pub record Puts (bs : List ℕ) (old new : Writer) : Type 0 where
  pub same_buffer : new.out.ghost_name ≡ old.out.ghost_name
  pub same_length : length new.out.now ≡ length old.out.now
  pub fits : new.at ≤ length new.out.now
  pub next : new.at ≡ old.at + length bs
  pub written : take new.at new.out.now ≡ take old.at old.out.now ++ bs
  pub behind : drop new.at new.out.now ≡ drop new.at old.out.now
