-- What the changes of a table are to a table of counts. Assumes nothing.
use Rattle.std.proofs.Common.{◌≡◌, ℕ, ◌+◌, ◌-◌, ◌<◌, ◌≤◌, true, Some, None, Ok, Err, Option, Result, unwrap_or, sym, refl, ◌∙◌, arith}
use Rattle.std.proofs.lemmas.Bool.{lt-ltb, le-ltb}
use Rattle.table.specs.declared.Full.{Full}
use Rattle.table.specs.Keys.{shorter}
use Rattle.table.specs.Rows.{at, without}
use Rattle.table.specs.Tables.{Put}
use Rattle.table.proofs.Facts.{without-absent}
use Rattle.types.specs.Numbers.{Height}
use Rattle.tips.specs.Counting.{Rows, total, more, fewer, tidy}
use Rattle.tips.proofs.Weights.{length-le}
use Rattle.tips.proofs.Tidy.{counted, tidy-more, tidy-fewer}

module _ (h : Height) (old new : Rows) (t : tidy old ≡ true) (n : ℕ) (is : n ≡ unwrap_or (at shorter h old) 0) where
  -- one tip more: there is a place for its row, since each row counts a tip
  pub raised : total old < 16 → (r : Result (Option ℕ) Full) → Put shorter 16 h (n + 1) old new r → (new ≡ more h old) × (tidy new ≡ true)
  raised few (Ok o) p = let e : new ≡ more h old = rw (sym is) p.1 in (e, rw e (tidy-more h old t))
  raised few (Err full) p = absurd (omega (arith, length-le old (counted old t).some, p.0, few))

  -- one tip fewer: from the row at h, or with it
  pub lowered : 1 < n → (r : Result (Option ℕ) Full) → Put shorter 16 h (n - 1) old new r → (new ≡ fewer h old) × (tidy new ≡ true)
  lowered big r p = let e = go (at shorter h old) refl r p in (e, rw e (tidy-fewer h old t))
    where
      go : (o : Option ℕ) → at shorter h old ≡ o → (r : Result (Option ℕ) Full) → Put shorter 16 h (n - 1) old new r → new ≡ fewer h old
      go (Some c) at_h (Ok o) p = let same : n ≡ c = cc in rw (at_h, ← same, lt-ltb 1 n big) p.1
      go (Some c) at_h (Err full) p = absurd (let e = p.1 in let z : ◌≡◌ {A = ℕ} 0 1 = cc in omega arith)
      go None at_h r p = absurd (let same : n ≡ 0 = cc in omega (arith, big))

  pub cleared : n ≤ 1 → new ≡ without shorter h old → (new ≡ fewer h old) × (tidy new ≡ true)
  cleared one w = let e = go (at shorter h old) refl in (e, rw e (tidy-fewer h old t))
    where
      go : (o : Option ℕ) → at shorter h old ≡ o → new ≡ fewer h old
      go (Some c) at_h = let same : n ≡ c = cc in rw (at_h, ← same, le-ltb 1 n one) w
      go None at_h = rw at_h (w ∙ without-absent shorter h old at_h)
