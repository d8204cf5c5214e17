use Rattle.std.proofs.Common.{ℕ, ◌+◌, ◌-◌, ◌++◌, List, sym, ap, ◌∙◌, arith}
use Rattle.bitmaps.specs.declared.signer_list.Signers.{Signers}
use Rattle.bitmaps.specs.Signers.{listed}
use Rattle.bitmaps.specs.Maps.{standing_from}
use Rattle.bitmaps.proofs.Listed.{listed_more, listed_same, listed-all, listed_none}
use Rattle.bitmaps.proofs.splits.signers.Goals.{then-stands, else-stands}
use Rattle.bitmaps.proofs.splits.signers.Goals as goal

pub loop-signer-init : goal.loop-signer-init
loop-signer-init c =
    let front : List ℕ → List ℕ = λ list. list ++ standing_from 16 0 c.args.map in
    (omega (arith, c.new-signers.ensures.len), ap front c.new-signers.ensures.signers ∙ listed_none c.args.map)

pub loop-signer-preserved : goal.loop-signer-preserved
loop-signer-preserved c =
    let m = c.args.map in
    let i = c.loop-signer.signer in
    let list = listed c.loop-signer.signers in
    let back : List ℕ → List ℕ = λ front. front ++ standing_from (16 - (i + 1)) (i + 1) m in
    elim c.if-stands.branch [
      | then-stands w ↦
          let pushed = ap listed w.signers-is ∙ w.push.ensures.signers in (
            omega (arith, ap (λ (s : Signers). s.len) w.signers-is, w.push.ensures.len),
            ap back pushed ∙ listed_more m i list _ c.loop-signer-test.true (sym c.stands.ensures ∙ w.if-stands.true) c.loop-signer.invariant.1,
          )
      | else-stands w ↦ (
        omega (arith, ap (λ (s : Signers). s.len) w.signers-is),
        ap back (ap listed w.signers-is) ∙ listed_same m i list _ c.loop-signer-test.true (sym c.stands.ensures ∙ w.if-stands.false) c.loop-signer.invariant.1,
      )
    ]

pub returns : goal.returns
returns c = listed-all c.args.map c.loop-signer.signer (listed c.loop-signer.signers) _ c.loop-signer-test.false c.loop-signer.invariant.1
