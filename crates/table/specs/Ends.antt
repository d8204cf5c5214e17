-- The two ends of a table. Assumes nothing.
use Rattle.std.specs.Prelude.{◌≡◌, Bool, false, List, [], ◌∷◌, Some, None, All, Option}
use Rattle.table.specs.declared.Entry.{Entry}

module _ {K V : Type 0} where
  -- the entry in front
  abbrev pub foremost : List (Entry K V) → Option (Entry K V)
  foremost [] = None
  foremost (e ∷ es) = Some e

  -- the entry at the end
  abbrev pub hindmost : List (Entry K V) → Option (Entry K V)
  hindmost [] = None
  hindmost (e ∷ []) = Some e
  hindmost (e ∷ d ∷ es) = hindmost (d ∷ es)

  module _ (less : K → K → Bool) where
    -- no key is below that of the entry
    abbrev pub Least : Option (Entry K V) → List (Entry K V) → Type 0
    Least None es = Unit {0}
    Least (Some f) es = All (λ (e : Entry K V). less e.key f.key ≡ false) es

    -- no key is above that of the entry
    abbrev pub Greatest : Option (Entry K V) → List (Entry K V) → Type 0
    Greatest None es = Unit {0}
    Greatest (Some l) es = All (λ (e : Entry K V). less l.key e.key ≡ false) es
