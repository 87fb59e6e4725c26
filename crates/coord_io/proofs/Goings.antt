-- What is told goes on from call to call.
use Rattle.std.proofs.Common.{◌≡◌, Option, Some, refl, subst}
use Rattle.coord_io.specs.Goes.{Goes, Stays}

-- two calls in turn make the step that joins theirs
pub goes_on :
    {T : Type 0} {told later last : Option T} {first second both : T → T → Type 0}
    → ((l m n : T) → first l m → second m n → both l n) → Goes told later first → Goes later last second → Goes told last both
goes_on join before after = record {
  came = λ n is.
      let m = after.came n is in
      let l = before.came m.0 m.1 in
      (l.0, l.1, join l.0 m.0 n l.2 m.2);
}

-- a call makes each step that its own implies
pub goes_as :
    {T : Type 0} {told later : Option T} {step wider : T → T → Type 0}
    → ((m n : T) → told ≡ Some m → step m n → wider m n) → Goes told later step → Goes told later wider
goes_as widen call = record { came = λ n is. let m = call.came n is in (m.0, m.1, widen m.0 n m.1 m.2) }

-- a call makes two steps at once
pub goes_both :
    {T : Type 0} {told later : Option T} {one other : T → T → Type 0}
    → Goes told later one → Goes told later other → Goes told later (λ m n. one m n × other m n)
goes_both {T} {told} {later} {one} {other} call same = record {
  came = λ n is.
      let m = call.came n is in
      let k = same.came n is in
      let e : k.0 ≡ m.0 = cc in
      (m.0, m.1, (m.2, subst (λ (v : T). other v n) e k.2));
}

-- nothing happens to what is told
pub goes_stays : {T : Type 0} (told : Option T) → Goes told told Stays
goes_stays told = record { came = λ n is. (n, is, refl) }

-- a step between what is told at both ends
pub goes_here : {T : Type 0} {step : T → T → Type 0} {m n : T} → step m n → Goes (Some m) (Some n) step
goes_here {T} {step} {m} {n} made = record {
  came = λ k is.
      let e : n ≡ k = cc in
      (m, refl, subst (λ (v : T). step m v) e made);
}

-- the same, where what was told at first is known by an equation
pub goes_viewed : {T : Type 0} {step : T → T → Type 0} {told m n : T} → m ≡ told → step m n → Goes (Some told) (Some n) step
goes_viewed {T} {step} {told} {m} {n} is made = goes_here (subst (λ (v : T). step v n) is made)
