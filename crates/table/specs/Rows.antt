-- A table as the list of its entries, in ascending order of their keys. Assumes nothing.
use Rattle.std.specs.Prelude.{◌≡◌, ℕ, suc, Bool, true, cond, List, [], ◌∷◌, Some, None, Option}
use Rattle.table.specs.declared.Entry.{Entry}

-- one place further on
abbrev pub onward : Option ℕ → Option ℕ
onward None = None
onward (Some i) = Some (suc i)

module _ {K V : Type 0} where
  -- a key with its value
  abbrev pub entry : K → V → Entry K V
  entry k v = record { key = k; value = v }

  module _ (less : K → K → Bool) where
    -- k is less than every key
    abbrev pub Above : K → List (Entry K V) → Type 0
    Above k [] = Unit {0}
    Above k (e ∷ es) = (less k e.key ≡ true) × Above k es

    -- each key is less than every later one: the keys ascend, and none stands twice
    abbrev pub Sorted : List (Entry K V) → Type 0
    Sorted [] = Unit {0}
    Sorted (e ∷ es) = Above e.key es × Sorted es

    -- the value at a key
    abbrev pub at : K → List (Entry K V) → Option V
    at k [] = None
    at k (e ∷ es) = cond (less e.key k) (at k es) (cond (less k e.key) None (Some e.value))

    -- how many keys are below k
    abbrev pub rank : K → List (Entry K V) → ℕ
    rank k [] = 0
    rank k (e ∷ es) = cond (less e.key k) (suc (rank k es)) 0

    -- the place of k, if it is there
    abbrev pub place : K → List (Entry K V) → Option ℕ
    place k [] = None
    place k (e ∷ es) = cond (less e.key k) (onward (place k es)) (cond (less k e.key) None (Some 0))

    -- the entries with the value v at k, in place of any other
    abbrev pub put : K → V → List (Entry K V) → List (Entry K V)
    put k v [] = entry k v ∷ []
    put k v (e ∷ es) = cond (less e.key k) (e ∷ put k v es) (cond (less k e.key) (entry k v ∷ e ∷ es) (entry k v ∷ es))

    -- the entries but the one at k
    abbrev pub without : K → List (Entry K V) → List (Entry K V)
    without k [] = []
    without k (e ∷ es) = cond (less e.key k) (e ∷ without k es) (cond (less k e.key) (e ∷ es) es)
