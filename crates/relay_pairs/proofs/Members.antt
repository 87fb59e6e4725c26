-- What is in a list that is made of others.
use Rattle.std.proofs.Common.{◌≡◌, ℕ, ◌<◌, Bool, true, false, cond, List, [], ◌∷◌, map, zero, suc, arith, refl, sym, ap, ◌∙◌, ◌⊎◌, inl, inr, subst}
use Rattle.std.proofs.lemmas.List.Elements.{Contains-append_cases, Contains-append_left, Contains-append_right}
use Rattle.std.proofs.lemmas.List.FromFn.{length-range_with_len, get_or-range_with_len}
use Rattle.std.specs.List.{range_with_len, filter, flat_map, Contains}

pub member_here : {X : Type 0} (x y : X) (xs : List X) → x ≡ y → Contains (x ∷ xs) y
member_here x y xs same = (zero, omega arith, same)

pub member_there : {X : Type 0} (x y : X) (xs : List X) → Contains xs y → Contains (x ∷ xs) y
member_there x y xs (k, h, e) = (suc k, omega arith, e)

-- an element is the first, or one of the others
pub member_cases : {X : Type 0} (x y : X) (xs : List X) → Contains (x ∷ xs) y → (x ≡ y) ⊎ Contains xs y
member_cases x y xs (zero, h, e) = inl e
member_cases x y xs (suc k, h, e) = inr (k, omega arith, e)

pub member_none : {X : Type 0} (y : X) → Contains [] y → ⊥
member_none y (k, h, e) = omega arith

-- an element of a mapped list comes from one of the list
pub member_map : {X Y : Type 0} (f : X → Y) (xs : List X) (y : Y) → Contains (map f xs) y → (x : X) × Contains xs x × (f x ≡ y)
member_map f [] y h = absurd (member_none y h)
member_map f (x ∷ xs) y h =
    elim (member_cases (f x) y (map f xs) h) [
      | inl e ↦ (x, member_here x x xs refl, e)
      | inr t ↦ let found = member_map f xs y t in (found.0, member_there x found.0 xs found.1, found.2)
    ]

pub map_member : {X Y : Type 0} (f : X → Y) (xs : List X) (x : X) → Contains xs x → Contains (map f xs) (f x)
map_member f [] x h = absurd (member_none x h)
map_member f (z ∷ xs) x h =
    elim (member_cases z x xs h) [
      | inl e ↦ member_here (f z) (f x) (map f xs) (ap f e)
      | inr t ↦ member_there (f z) (f x) (map f xs) (map_member f xs x t)
    ]

kept_cases : {X : Type 0} (p : X → Bool) (x y : X) (xs ys : List X) (b : Bool) → p x ≡ b
    → (Contains ys y → Contains xs y × (p y ≡ true)) → Contains (cond b (x ∷ ys) ys) y → Contains (x ∷ xs) y × (p y ≡ true)
kept_cases p x y xs ys false e rest h = (member_there x y xs (rest h).0, (rest h).1)
kept_cases p x y xs ys true e rest h =
    elim (member_cases x y ys h) [
      | inl same ↦ (member_here x y xs same, sym (ap p same) ∙ e)
      | inr t ↦ (member_there x y xs (rest t).0, (rest t).1)
    ]

-- an element that a filter keeps passes, and is one of the list
pub member_filter : {X : Type 0} (p : X → Bool) (xs : List X) (y : X) → Contains (filter p xs) y → Contains xs y × (p y ≡ true)
member_filter p [] y h = absurd (member_none y h)
member_filter p (x ∷ xs) y h = kept_cases p x y xs (filter p xs) (p x) refl (member_filter p xs y) h

keeps_first : {X : Type 0} (x y : X) (ys : List X) (b : Bool) → b ≡ true → x ≡ y → Contains (cond b (x ∷ ys) ys) y
keeps_first x y ys b passes same = rw passes (member_here x y ys same)

keeps_rest : {X : Type 0} (x y : X) (ys : List X) (b : Bool) → Contains ys y → Contains (cond b (x ∷ ys) ys) y
keeps_rest x y ys true h = member_there x y ys h
keeps_rest x y ys false h = h

pub filter_member : {X : Type 0} (p : X → Bool) (xs : List X) (y : X) → Contains xs y → p y ≡ true → Contains (filter p xs) y
filter_member p [] y h passes = absurd (member_none y h)
filter_member p (x ∷ xs) y h passes =
    elim (member_cases x y xs h) [
      | inl e ↦ keeps_first x y (filter p xs) (p x) (ap p e ∙ passes) e
      | inr t ↦ keeps_rest x y (filter p xs) (p x) (filter_member p xs y t passes)
    ]

-- an element of joined pieces is in the piece of some element
pub member_flat_map : {X Y : Type 0} (f : X → List Y) (xs : List X) (y : Y) → Contains (flat_map f xs) y → (x : X) × Contains xs x × Contains (f x) y
member_flat_map f [] y h = absurd (member_none y h)
member_flat_map f (x ∷ xs) y h =
    elim (Contains-append_cases (f x) (flat_map f xs) y h) [
      | inl a ↦ (x, member_here x x xs refl, a)
      | inr t ↦ let found = member_flat_map f xs y t in (found.0, member_there x found.0 xs found.1, found.2)
    ]

pub flat_map_member : {X Y : Type 0} (f : X → List Y) (xs : List X) (x : X) (y : Y) → Contains xs x → Contains (f x) y → Contains (flat_map f xs) y
flat_map_member f [] x y h t = absurd (member_none x h)
flat_map_member f (z ∷ xs) x y h t =
    elim (member_cases z x xs h) [
      | inl e ↦ Contains-append_left (f z) (flat_map f xs) y (let P = λ (w : _). Contains (f w) y in subst P (sym e) t)
      | inr s ↦ Contains-append_right (f z) (flat_map f xs) y (flat_map_member f xs x y s t)
    ]

-- the numbers from 0 are those below the count
pub member_number : (n k : ℕ) → Contains (range_with_len 0 n) k → k < n
member_number n k (i, h, e) =
    let short : i < n = omega (arith, h, length-range_with_len 0 n) in
    omega (arith, e, get_or-range_with_len 0 n i k short)

pub number_member : (n k : ℕ) → k < n → Contains (range_with_len 0 n) k
number_member n k h = (k, omega (arith, length-range_with_len 0 n), get_or-range_with_len 0 n k k h ∙ omega arith)
