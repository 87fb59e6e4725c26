-- Reading elements one after the other, as a loop does.
use Rattle.std.proofs.Common.{◌≡◌, ℕ, ◌+◌, ◌<◌, List, [], ◌∷◌, ◌++◌, length, get_or, drop, map, Result, Ok, Err, refl, sym, ap, ◌∙◌}
use Rattle.std.proofs.lemmas.List.{drop_more}
use Rattle.network_file.specs.declared.fault.NetFault.{NetFault}
use Rattle.network_file.specs.declared.fault.NetFault.TheVariants.{NotText, NotToml, At, TooMany, NoMemory}
use Rattle.network_file.specs.Fault.{◌>>=◌, Fails, each_after}

-- a reading that ends well went on from a value
pub from_value : {A B P : Type 0} (r : Result A NetFault) (next : A → Result B NetFault) (z : B) → (r >>= next) ≡ Ok z
    → ((x : A) → r ≡ Ok x → next x ≡ Ok z → P) → P
from_value (Ok x) next z h then = then x refl h
from_value (Err e) next z h then = absurd (cc)

-- the next element, seen by v, and those after it
pub seen_split : {A B : Type 0} (v : A → B) (xs : List A) (i : ℕ) (x : A) → i < length xs → x ≡ get_or xs i x
    → map v (drop i xs) ≡ v x ∷ map v (drop (i + 1) xs)
seen_split v xs i x within is = ap (map v) (drop_more xs i x within) ∙ ap (λ y. v y ∷ map v (drop (i + 1) xs)) (sym is)

pub next_split : {A : Type 0} (xs : List A) (i : ℕ) (x : A) → i < length xs → x ≡ get_or xs i x → drop i xs ≡ x ∷ drop (i + 1) xs
next_split xs i x within is = drop_more xs i x within ∙ ap (λ y. y ∷ drop (i + 1) xs) (sym is)

-- a reading's own fault is no want of memory, or it says nothing
pub own_fault : {A : Type 0} (fault : NetFault) (reading : Result A NetFault) → reading ≡ Err fault → Fails fault reading
own_fault NotText reading h = h
own_fault NotToml reading h = h
own_fault (At kind table index key) reading h = h
own_fault (TooMany what limit) reading h = h
own_fault NoMemory reading h = tt

fails_along : {A B : Type 0} (fault : NetFault) (r : Result A NetFault) (t : Result B NetFault) → Fails fault r → (r ≡ Err fault → t ≡ Err fault) → Fails fault t
fails_along NotText r t h f = f h
fails_along NotToml r t h f = f h
fails_along (At kind table index key) r t h f = f h
fails_along (TooMany what limit) r t h f = f h
fails_along NoMemory r t h f = tt

module _ {A B : Type 0} (read : List B → A → Result B NetFault) (before : List B) (x : A) (rest all : List A) (total : Result (List B) NetFault) where
  -- one more element is read
  pub goes_on : (y : B) → all ≡ x ∷ rest → read before x ≡ Ok y → each_after read before all ≡ total → each_after read (before ++ y ∷ []) rest ≡ total
  unfolding each_after
  goes_on y split h so_far =
      let one : each_after read before all ≡ each_after read (before ++ y ∷ []) rest = rw (split, h) refl in
      sym one ∙ so_far

  -- an element's fault is that of all
  pub stops : (fault : NetFault) → all ≡ x ∷ rest → Fails fault (read before x) → each_after read before all ≡ total → Fails fault total
  unfolding each_after
  stops fault split h so_far = fails_along fault (read before x) total h (λ e.
      let one : each_after read before all ≡ Err fault = rw (split, e) refl in
      sym so_far ∙ one)

-- all are read
pub ends : {A B : Type 0} (read : List B → A → Result B NetFault) (before : List B) (all : List A) (total : Result (List B) NetFault)
    → all ≡ [] → each_after read before all ≡ total → total ≡ Ok before
unfolding each_after
ends read before all total none so_far =
    let one : each_after read before all ≡ Ok before = rw none refl in
    sym so_far ∙ one

-- one more element that is read
pub each_push : {A B : Type 0} (read : List B → A → Result B NetFault) (before : List B) (xs : List A) (ys : List B) (x : A) (y : B)
    → each_after read before xs ≡ Ok ys → read ys x ≡ Ok y → each_after read before (xs ++ x ∷ []) ≡ Ok (ys ++ y ∷ [])
unfolding each_after
each_push read before [] ys x y so_far h =
    let same : before ≡ ys = cc in
    rw (same, h)
each_push read before (z ∷ xs) ys x y so_far h =
    from_value (read before z) (λ w. each_after read (before ++ w ∷ []) xs) ys so_far (λ w one rest.
    rw one (each_push read (before ++ w ∷ []) xs ys x y rest h))
