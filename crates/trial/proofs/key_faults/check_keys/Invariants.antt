use Rattle.std.proofs.Common.{◌≡◌}
use Rattle.std.specs.Iterator.Adapters.{enumerate_source, enumerate_count}
use Rattle.std.specs.Slice.Iter.{windows_rest, windows_size}
use Rattle.provider.specs.Values.{key_bytes}
use Rattle.trial.specs.Faults.{keys_fault}
use Rattle.trial.proofs.Windows.{faults_at}
use Rattle.trial.proofs.key_faults.check_keys.Given as goal

-- the keys that are left have the fault that all have
abbrev pub invariant-loop-i : goal.invariant-loop-i
invariant-loop-i l =
    (windows_size (enumerate_source l.i-iterator) ≡ 2)
    × (faults_at (enumerate_count l.i-iterator) (windows_rest (enumerate_source l.i-iterator)) ≡ keys_fault (key_bytes l.keys))
