-- What the list of pairs keeps: a pair stands in it where the one relay backs the other, in order and once.
use Rattle.std.specs.Prelude.{◌≢◌, ◌↔◌, ◌&&◌, slice_get, IsTrue}
use Rattle.std.proofs.Common.{◌≡◌, ℕ, ◌<◌, Bool, true, List, [], ◌∷◌, ◌++◌, length, map, get_or, zero, suc, Some, None, Option, arith, refl, ap, inl, inr, subst}
use Rattle.std.specs.List.{AllPairs, All, Contains, filter, flat_map, range_with_len}
use Rattle.std.proofs.lemmas.List.Elements.{All-append, All-map, All-contains, Contains-get_or}
use Rattle.std.proofs.lemmas.List.FromFn.{length-range_with_len, get_or-range_with_len}
use Rattle.std.proofs.lemmas.List.Kept.{AllPairs-cons, AllPairs-filter}
use Rattle.std.proofs.lemmas.Option.{slice_get_within}
use Rattle.coord_model.specs.Pairs.{backs, looks_towards, pairs_behind, pairs_of, relay_numbers}
use Rattle.coord_model.specs.StudyData.{StudyData}
use Rattle.coord_model.specs.declared.study.Pair.{Pair}
use Rattle.coord_model.specs.declared.study.Relay.{Relay}
use Rattle.relay_pairs.specs.Order.{ComesBefore}
use Rattle.relay_pairs.proofs.Members.{member_here, member_there, member_map, map_member, member_filter, filter_member, member_flat_map, flat_map_member, number_member}

-- ---- a pair stands where the one relay backs the other

-- the pair of two relays
abbrev pair_with : ℕ → ℕ → Pair
pair_with p b = record { backup = b; primary = p }

-- a pair behind a primary is of that primary, and of a relay that backs it
record IsBehind (study : StudyData) (p : ℕ) (pair : Pair) : Type 0 where
  primary : pair.primary ≡ p
  backing : backs study pair.backup pair.primary ≡ true

is_behind : (study : StudyData) (p : ℕ) (pair : Pair) → Contains (pairs_behind study p) pair → IsBehind study p pair
is_behind study p pair listed =
    let mapped = member_map (pair_with p) (filter (λ b. backs study b p) (relay_numbers study)) pair listed in
    let kept = member_filter (λ b. backs study b p) (relay_numbers study) mapped.0 mapped.1 in
    let P : Pair → Type 0 = λ q. IsBehind study p q in
    subst P mapped.2 (record { primary = refl; backing = kept.1 })

-- relays of which the one looks towards the other are there
both_there : (study : StudyData) (b p : Option Relay) (rest : Bool) → (looks_towards study b p && rest) ≡ true → ((x : Relay) × (b ≡ Some x)) × ((y : Relay) × (p ≡ Some y))
both_there study None p rest holds = absurd (cc)
both_there study (Some x) None rest holds = absurd (cc)
both_there study (Some x) (Some y) rest holds = ((x, refl), (y, refl))

pub backing_relays : (study : StudyData) (b p : ℕ) → backs study b p ≡ true → (b < length study.relays) × (p < length study.relays)
backing_relays study b p backing =
    let there = both_there study (slice_get study.relays b) (slice_get study.relays p) _ backing in
    (slice_get_within study.relays b there.0.0 there.0.1, slice_get_within study.relays p there.1.0 there.1.1)

pub listed_where_backing : (study : StudyData) (pair : Pair) → Contains (pairs_of study) pair ↔ IsTrue (backs study pair.backup pair.primary)
listed_where_backing study pair = (
  λ listed. let piece = member_flat_map (pairs_behind study) (relay_numbers study) pair listed in (is_behind study piece.0 pair piece.2).backing,
  λ backing. let relays = backing_relays study pair.backup pair.primary backing in
      flat_map_member (pairs_behind study) (relay_numbers study) pair.primary pair (number_member (length study.relays) pair.primary relays.1)
      (map_member (pair_with pair.primary) (filter (λ b. backs study b pair.primary) (relay_numbers study)) pair.backup
      (filter_member (λ b. backs study b pair.primary) (relay_numbers study) pair.backup (number_member (length study.relays) pair.backup relays.0) backing)),
)

-- ---- in order

pub none_apart : {X : Type 0} (R : X → X → Type 0) → let none : List X = [] in AllPairs R none
none_apart R i j d before below = absurd (omega (arith, below))

pub all_after : {X : Type 0} (R : X → X → Type 0) (x : X) (xs : List X) → AllPairs R (x ∷ xs) → All (R x) xs
all_after R x xs apart k d below = apart zero (suc k) d (omega arith) (omega (arith, below))

pub pairs_after : {X : Type 0} (R : X → X → Type 0) (x : X) (xs : List X) → AllPairs R (x ∷ xs) → AllPairs R xs
pairs_after R x xs apart i j d before below = apart (suc i) (suc j) d (omega (arith, before)) (omega (arith, below))

pub pairs_mapped : {X Y : Type 0} (R : Y → Y → Type 0) (f : X → Y) (xs : List X) → AllPairs (λ x y. R (f x) (f y)) xs → AllPairs R (map f xs)
pairs_mapped R f [] apart = none_apart R
pairs_mapped R f (x ∷ xs) apart =
    AllPairs-cons R (f x) (map f xs) (All-map (R (f x)) f xs (all_after (λ x y. R (f x) (f y)) x xs apart))
    (pairs_mapped R f xs (pairs_after (λ x y. R (f x) (f y)) x xs apart))

pub pairs_joined : {X : Type 0} (R : X → X → Type 0) (xs ys : List X) → AllPairs R xs → AllPairs R ys → ((x y : X) → Contains xs x → Contains ys y → R x y) → AllPairs R (xs ++ ys)
pairs_joined R [] ys first second across = second
pairs_joined R (x ∷ xs) ys first second across =
    AllPairs-cons R x (xs ++ ys)
    (All-append (R x) xs ys (all_after R x xs first) (λ k d below. across x (get_or ys k d) (member_here x x xs refl) (Contains-get_or ys k d below)))
    (pairs_joined R xs ys (pairs_after R x xs first) second (λ u v u_in v_in. across u v (member_there x u xs u_in) v_in))

pub numbers_ascend : (n : ℕ) → AllPairs (λ (a b : ℕ). a < b) (range_with_len 0 n)
numbers_ascend n i j d before below =
    let second : j < n = omega (arith, below, length-range_with_len 0 n) in
    omega (arith, before, get_or-range_with_len 0 n i d (omega (arith, before, second)), get_or-range_with_len 0 n j d second)

behind_in_order : (study : StudyData) (p : ℕ) → AllPairs ComesBefore (pairs_behind study p)
behind_in_order study p =
    pairs_mapped ComesBefore (pair_with p) (filter (λ b. backs study b p) (relay_numbers study))
    (λ i j d before below. inr (refl, AllPairs-filter (λ (a b : ℕ). a < b) (λ b. backs study b p) (relay_numbers study) (numbers_ascend (length study.relays)) i j d before below))

-- joined pieces are in order, if each is and those of an earlier number come before those of a later one
pub pieces_joined : {X : Type 0} (R : X → X → Type 0) (f : ℕ → List X) (ns : List ℕ) → AllPairs (λ (a b : ℕ). a < b) ns → ((n : ℕ) → AllPairs R (f n))
    → ((n m : ℕ) → n < m → (x y : X) → Contains (f n) x → Contains (f m) y → R x y) → AllPairs R (flat_map f ns)
pieces_joined R f [] ascend each across = none_apart R
pieces_joined R f (n ∷ ns) ascend each across =
    pairs_joined R (f n) (flat_map f ns) (each n) (pieces_joined R f ns (pairs_after (λ (a b : ℕ). a < b) n ns ascend) each across)
    (λ x y x_in y_in.
    let piece = member_flat_map f ns y y_in in
    across n piece.0 (All-contains (λ m. n < m) ns piece.0 (all_after (λ (a b : ℕ). a < b) n ns ascend) piece.1) x y x_in piece.2)

pub pairs_in_order : (study : StudyData) → AllPairs ComesBefore (pairs_of study)
pairs_in_order study =
    pieces_joined ComesBefore (pairs_behind study) (relay_numbers study) (numbers_ascend (length study.relays)) (behind_in_order study)
    (λ p q later x y x_in y_in. inl (omega (arith, later, (is_behind study p x x_in).primary, (is_behind study q y y_in).primary)))

-- ---- each once

apart_before : (pair other : Pair) → ComesBefore pair other → pair ≢ other
apart_before pair other before same =
    let primary = ap (λ (q : Pair). q.primary) same in
    let backup = ap (λ (q : Pair). q.backup) same in
    elim before [
      | inl first ↦ omega (arith, first, primary)
      | inr second ↦ omega (arith, second.1, backup)
    ]

pub pairs_once : (study : StudyData) → AllPairs (λ (pair other : Pair). pair ≢ other) (pairs_of study)
pairs_once study i j d before below = apart_before _ _ (pairs_in_order study i j d before below)
