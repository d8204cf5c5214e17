use Rattle.std.proofs.Common.{◌≡◌, ℕ, ◌+◌, true, false, ltb, length, get_or, Err, sym, ap, ◌∙◌, arith}
use Rattle.std.proofs.lemmas.Bool.{lt-ltb}
use Rattle.forms.specs.Uint.{groups}
use Rattle.forms.specs.Reading.{numbered}
use Rattle.forms.specs.Borrowed.{piece}
use Rattle.forms.proofs.Groups.{past-start, past-wrong, past-last, past_more, past_none, right_fits, room_fits, value-fits}
use Rattle.forms.proofs.reader.Reader.number.Goals as goal

pub loop-k-init : goal.loop-k-init
loop-k-init c = record { so_far = past-start (groups false c.args.most c.self.inside.left.bytes.now); fits = omega arith; unread = sym c.self.view_is }

pub overflow_mul-value : goal.overflow_mul-value
overflow_mul-value c =
    let l = c.loop-k in
    let b = get_or c.self.inside.left.bytes.now l.k 0 in
    omega (arith, value-fits c.args.most l.room l.value l.place b (right_fits (ltb 0 l.k) l.room b (sym c.if-wrong_group.ensures)) l.invariant.fits)

pub skip-requires : goal.skip-requires
skip-requires c = simp c.loop-k.invariant.unread (omega arith)

pub returns-then-wrong_group : goal.returns-then-wrong_group
returns-then-wrong_group c =
    let l = c.loop-k in
    let w = past-wrong l.k l.value l.place l.room (ltb 0 l.k) c.self.inside.left.bytes.now c.loop-k-test.true (sym c.if-wrong_group.ensures) in
    rw (← c.self.view_is) (ap (numbered c.args.field (piece c.self.inside.left)) (l.invariant.so_far ∙ w))

pub returns-then-group-lt128 : goal.returns-then-group-lt128
returns-then-group-lt128 c =
    let l = c.loop-k in
    let w = past-last l.k l.value l.place l.room (ltb 0 l.k) c.self.inside.left.bytes.now c.loop-k-test.true (sym c.if-wrong_group.ensures) c.if-group-lt128.true in
    rw (← c.self.view_is, c.skip.ensures, l.invariant.unread) (ap (numbered c.args.field (piece c.self.inside.left)) (l.invariant.so_far ∙ w))

pub loop-k-preserved : goal.loop-k-preserved
loop-k-preserved c =
    let l = c.loop-k in
    let bs = c.self.inside.left.bytes.now in
    let b = get_or bs l.k 0 in
    let ok = sym c.if-wrong_group.ensures in
    let w = past_more l.k l.value l.place l.room (ltb 0 l.k) bs c.loop-k-test.true ok c.if-group-lt128.false in
    let i : ltb 0 (l.k + 1) ≡ true = lt-ltb 0 (l.k + 1) (omega arith) in
    record {
      so_far = rw i (l.invariant.so_far ∙ w);
      fits = room_fits c.args.most l.room l.value l.place b c.if-group-lt128.false (right_fits (ltb 0 l.k) l.room b ok) l.invariant.fits;
      unread = l.invariant.unread;
    }

pub returns : goal.returns
returns c =
    let l = c.loop-k in
    let e : l.k ≡ length c.self.inside.left.bytes.now = omega arith in
    let w = past_none l.k l.value l.place l.room (ltb 0 l.k) c.self.inside.left.bytes.now c.loop-k-test.false in
    rw (← c.self.view_is) (ap (numbered c.args.field (piece c.self.inside.left)) (l.invariant.so_far ∙ w ∙ ap (λ (x : ℕ). Err x) e))
