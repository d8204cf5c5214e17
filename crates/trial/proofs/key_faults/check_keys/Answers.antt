use Rattle.std.proofs.Common.{◌≡◌, ℕ, ◌+◌, None, Option, sym, ap, ◌∙◌, arith}
use Rattle.std.specs.Iterator.Adapters.{enumerate_source, enumerate_count}
use Rattle.std.specs.Slice.Iter.{windows_rest, windows_size}
use Rattle.trial.specs.declared.fault.Fault.{Fault}
use Rattle.trial.specs.Faults.{checked, or_else, neighbour_fault}
use Rattle.trial.proofs.Windows.{faults_at, faults_at-all, faults_at-few, turn, none_passed}
use Rattle.trial.proofs.key_faults.check_keys.Goals as goal

pub loop-i-init : goal.loop-i-init
loop-i-init c =
    let keys = c.args.keys.now in
    let it = c.into_iter-i-iterator.result in
    let size : windows_size (enumerate_source it) ≡ 2 = cc (c.into_iter-i-iterator.ensures.into_iter_gives, c.enumerate-i-items.ensures.source, c.windows.ensures.size) in
    let rest : windows_rest (enumerate_source it) ≡ keys = cc (c.into_iter-i-iterator.ensures.into_iter_gives, c.enumerate-i-items.ensures.source, c.windows.ensures.rest) in
    let count : enumerate_count it ≡ 0 = cc (c.into_iter-i-iterator.ensures.into_iter_gives, c.enumerate-i-items.ensures.count) in
    (size, ap (λ (n : ℕ). faults_at n (windows_rest (enumerate_source it))) count ∙ ap (faults_at 0) rest ∙ faults_at-all keys)

pub loop-i-preserved : goal.loop-i-preserved
loop-i-preserved c =
    let it = c.loop-i.i-iterator in
    let next = c.next.new.self in
    let step = c.in-Some.ensures.steps in
    let low = c.index-pair-0.result in
    let high = c.index-pair-1.result in
    let left : Option Fault = faults_at (enumerate_count next) (windows_rest (enumerate_source next)) in
    let window = turn (windows_size (enumerate_source it)) (enumerate_count it) (enumerate_count next) (windows_rest (enumerate_source it)) (windows_rest (enumerate_source next))
    c.in-Some.pair.now low high c.loop-i.invariant.0 step.0.1.0 step.0.1.1 step.0.1.2 step.2 c.index-pair-0.is c.index-pair-1.is in
    let fine : neighbour_fault (c.in-Some.i + 1) low.bytes high.bytes ≡ None = none_passed _ _ (sym c.check_neighbour.ensures ∙ c.in_ok-check_neighbour.was) in (
      step.0.0 ∙ c.loop-i.invariant.0,
      sym (window ∙ ap (λ (n : ℕ). or_else (neighbour_fault (n + 1) low.bytes high.bytes) left) (sym step.1) ∙ ap (λ (o : Option Fault). or_else o left) fine)
          ∙ c.loop-i.invariant.1,
    )

pub returns : goal.returns
returns c =
    let it = c.loop-i.i-iterator in
    let few = faults_at-few (enumerate_count it) (windows_rest (enumerate_source it)) (omega (arith, c.in-None.ensures.steps, c.loop-i.invariant.0)) in
    ap checked (sym few ∙ c.loop-i.invariant.1)
