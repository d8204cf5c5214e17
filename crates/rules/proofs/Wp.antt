-- Acts one after the other: what has to hold wherever they stop, and what holds once all are carried out. Assumes nothing.
use Rattle.std.proofs.Common.{◌≡◌, ℕ, List, [], ◌∷◌, ◌++◌, sym, ap, ◌∙◌, subst, inl, inr, append_assoc, append-nil, arith}
use Rattle.journal.specs.Log.{Log, Firmer}
use Rattle.rules.specs.State.{Desk}
use Rattle.rules.specs.Acts.{Act, append, sync, prune, sync_all, read, tell, send, block, hand_out, take_back, lodge, fetch, drop_below, hear, sign, make, fail, Ended, whole, Space, Stops, Goes, Did, in_log, at_desk}

-- no act stops as whole
pub stops-short : (room : Space) (a : Act) (v w : Log) → Stops room a v whole w → ⊥
stops-short room (append s x) v w z = z
stops-short room (sync s) v w z = z
stops-short room (prune s) v w (e, _) = let n : ◌≡◌ {A = ℕ} 0 1 = cc in omega arith
stops-short room sync_all v w z = z
stops-short room (read o) v w z = z
stops-short room (tell a) v w z = z
stops-short room (send t a) v w z = z
stops-short room (block x) v w z = z
stops-short room (hand_out h) v w z = z
stops-short room (take_back h) v w z = z
stops-short room (lodge h) v w z = z
stops-short room (fetch h) v w z = z
stops-short room (drop_below h) v w z = z
stops-short room (hear a) v w z = z
stops-short room (sign a) v w z = z
stops-short room (make c) v w z = z
stops-short room fail v w (e, _) = let n : ◌≡◌ {A = ℕ} 0 1 = cc in omega arith

-- J has to hold of what was done and of the journal wherever acts stop
module _ (J : List Act → Log → Type 0) where
  abbrev pub StopOk : List Act → Act → Log → Type 0
  StopOk hist a v = (room : Space) (r : Ended) (w : Log) → Stops room a v r w → J hist w

  -- from what was done and the journal's value, the acts may stop anywhere, and at their end Q holds
  abbrev pub WP : List Act → List Act → Log → (List Act → Log → Type 0) → Type 0
  WP [] hist v Q = Q hist v
  WP (a ∷ acts) hist v Q = StopOk hist a v × (Goes a v → WP acts (hist ++ (a ∷ [])) (in_log a v) Q)

  pub wp_more : (acts hist : List Act) (v : Log) (Q R : List Act → Log → Type 0) → ((h : List Act) (u : Log) → Q h u → R h u) → WP acts hist v Q → WP acts hist v R
  wp_more [] hist v Q R f w = f hist v w
  wp_more (a ∷ acts) hist v Q R f w = (w.0, λ g. wp_more acts (hist ++ (a ∷ [])) (in_log a v) Q R f (w.1 g))

  pub wp_then : (xs ys hist : List Act) (v : Log) (Q : List Act → Log → Type 0) → WP xs hist v (λ h u. WP ys h u Q) → WP (xs ++ ys) hist v Q
  wp_then [] ys hist v Q w = w
  wp_then (a ∷ xs) ys hist v Q w = (w.0, λ g. wp_then xs ys (hist ++ (a ∷ [])) (in_log a v) Q (w.1 g))

  pub wp_three : (xs ys zs hist : List Act) (v : Log) (Q : List Act → Log → Type 0) → WP xs hist v (λ h u. WP (ys ++ zs) h u Q) → WP ((xs ++ ys) ++ zs) hist v Q
  wp_three xs ys zs hist v Q w = subst (λ l. WP l hist v Q) (sym (append_assoc xs ys zs)) (wp_then xs (ys ++ zs) hist v Q w)

  -- what acts that were carried out leave
  pub record Sound (Q : List Act → Log → Type 0) (hist : List Act) (r : Ended) (w : Log) : Type 0 where
    pub ends : r ≡ whole → (u : Log) × Q hist u × Firmer u w
    pub stops : (r ≡ whole → ⊥) → J hist w

  pub sound : (acts hist : List Act) (v : Log) (Q : List Act → Log → Type 0) (room : Space) (k : Desk) (r : Ended) (done : List Act) (w : Log) (j : Desk) →
      WP acts hist v Q → Did room acts v k r done w j → Sound Q (hist ++ done) r w
  sound [] hist v Q room k r done w j q (e, d, f, _) =
      let same : hist ++ done ≡ hist = ap (λ l. hist ++ l) d ∙ append-nil hist in
      record { ends = λ _. (v, subst (λ h. Q h v) (sym same) q, f); stops = λ n. absurd (n e) }
  sound (a ∷ acts) hist v Q room k r done w j q (inl (z, d, _)) =
      let same : hist ++ done ≡ hist = ap (λ l. hist ++ l) d ∙ append-nil hist in
      record {
        ends = λ e. absurd (stops-short room a v w (subst (λ x. Stops room a v x w) e z));
        stops = λ _. subst (λ h. J h w) (sym same) (q.0 room r w z);
      }
  sound (a ∷ acts) hist v Q room k r done w j q (inr (g, (rest, d, f))) =
      let i = sound acts (hist ++ (a ∷ [])) (in_log a v) Q room (at_desk a k) r rest w j (q.1 g) f in
      let same : (hist ++ (a ∷ [])) ++ rest ≡ hist ++ done = append_assoc hist (a ∷ []) rest ∙ ap (λ l. hist ++ l) (sym d) in
      subst (λ h. Sound Q h r w) same i
