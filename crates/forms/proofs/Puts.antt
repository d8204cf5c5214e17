-- Writing one part behind another.
use Rattle.std.proofs.Common.{◌≡◌, ℕ, ◌+◌, List, ◌++◌, length, take, drop, sym, ap, ◌∙◌, arith}
use Rattle.std.proofs.lemmas.List.{append_assoc, length-append, drop-drop}
use Rattle.forms.specs.declared.writer.Writer.{Writer}
use Rattle.forms.specs.Cursor.{Puts}

-- what stood behind both parts stands there still
drop_on : (at n m : ℕ) (xs ys : List ℕ) → m ≡ at + n → drop at xs ≡ drop at ys → drop m xs ≡ drop m ys
drop_on at n m xs ys e h =
    ap (λ i. drop i xs) e ∙ sym (drop-drop n at xs) ∙ ap (drop n) h ∙ drop-drop n at ys ∙ ap (λ i. drop i ys) (sym e)

-- one part, and then another
pub puts_then : {f g : List ℕ} {a b c : Writer} → Puts f a b → Puts g b c → Puts (f ++ g) a c
puts_then {f} {g} {a} {b} {c} p q =
    record {
      same_buffer = q.same_buffer ∙ p.same_buffer;
      same_length = q.same_length ∙ p.same_length;
      fits = q.fits;
      next = omega (arith, p.next, q.next, length-append f g);
      written = q.written ∙ ap (λ ws. ws ++ g) p.written ∙ append_assoc (take a.at a.out.now) f g;
      behind = q.behind ∙ drop_on b.at (length g) c.at b.out.now a.out.now q.next p.behind;
    }
