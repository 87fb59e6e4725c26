-- The way back from a raise, turned round.
use Rattle.std.specs.Prelude.{slice_get}
use Rattle.std.specs.Option.{IfSome, IsSomeAnd, option_map}
use Rattle.std.proofs.Common.{◌≡◌, ℕ, ◌+◌, ◌-◌, ◌<◌, ◌≤◌, List, [], ◌∷◌, ◌++◌, get_or, length, reverse, Some, None, Option, arith, refl, sym, ap, ◌∙◌, subst}
use Rattle.std.proofs.lemmas.List.{reverse-append, length-reverse, get_or-reverse, length_push}
use Rattle.std.proofs.lemmas.Option.{slice_get-get_or}
use Rattle.coord_why.specs.Chains.{EndsAt, Follow}
use Rattle.coord_why.specs.Links.{Holds}
use Rattle.coord_why.specs.Raises.{AreFounded, IsOnWay, RestEarlier, base_of, rests_left}
use Rattle.coord_why.specs.declared.climb.Raise.{Raise}
use Rattle.coord_why.specs.declared.link.Link.{Link}
use Rattle.margin_rows.specs.Case.{Case}
use Rattle.margin_rows.proofs.Placed.{of_some}
use Rattle.margin_rows.proofs.Places.{and_some}

-- one link more
pub more_follows : (case : Case) (pickups : List ℕ) (raises : List Raise) (links : List Link) (number : ℕ) (raise : Raise) → AreFounded case pickups raises → slice_get raises number ≡ Some raise
    → Follow case pickups (base_of raises (Some number)) (reverse links) → Follow case pickups (base_of raises raise.rests) (reverse (links ++ raise.link ∷ []))
more_follows case pickups raises links number raise founded found follows =
    let P : List Link → Type 0 = λ ls. Follow case pickups (base_of raises raise.rests) ls in
    let Q : Option Raise → Type 0 = λ o. Follow case pickups (option_map (λ (r : Raise). r.link) o) (reverse links) in
    subst P (sym (reverse-append links (raise.link ∷ [])))
    (of_some (slice_get raises number) (λ r. Holds case pickups (base_of raises r.rests) r.link) raise found (founded number), subst Q found follows)

pub more_on_way : (raises : List Raise) (last number : ℕ) (next : Option ℕ) (links : List Link) (raise : Raise) → next ≡ Some number → slice_get raises number ≡ Some raise
    → IsOnWay raises last next links → IsOnWay raises last raise.rests (links ++ raise.link ∷ [])
more_on_way raises last number next [] raise is found way =
    let P : Option ℕ → Type 0 = λ o. IfSome o (λ k. slice_get raises k ≡ Some raise) in
    let here : slice_get raises last ≡ Some raise = subst P (sym is ∙ way) found in
    and_some (slice_get raises last) (λ r. r.link ≡ raise.link) raise here refl
more_on_way raises last number next (link ∷ links) raise is found way = way

pub more_few : (raises : List Raise) (links : List Link) (number : ℕ) (raise : Raise) → RestEarlier raises → slice_get raises number ≡ Some raise
    → length links + (number + 1) ≤ length raises → length (links ++ raise.link ∷ []) + rests_left raise.rests ≤ length raises
more_few raises links number raise earlier found few =
    omega (arith, few, length_push links raise.link, left raise.rests (of_some (slice_get raises number) (λ r. IfSome r.rests (λ base. base < number)) raise found (earlier number)))
  where
    left : (rests : Option ℕ) → IfSome rests (λ base. base < number) → rests_left rests ≤ number
    left None before = omega arith
    left (Some base) before = omega (arith, before)

-- the whole way ends at the link of the last raise
pub way_ends : (raises : List Raise) (last : ℕ) (next : Option ℕ) (links back : List Link) → next ≡ None → IsOnWay raises last next links → back ≡ reverse links
    → IsSomeAnd (slice_get raises last) (λ raise. EndsAt back raise.link.relay raise.link.step)
way_ends raises last next [] back none way is = absurd (let here : Some last ≡ None = sym way ∙ none in cc)
way_ends raises last next (link ∷ links) back none way is = go (slice_get raises last) way
  where
    whole : List Link
    whole = link ∷ links

    last_there : slice_get back (length back - 1) ≡ Some link
    last_there =
        let count : length back ≡ length whole = ap (λ (ls : List Link). length ls) is ∙ length-reverse whole in
        let P : List Link → Type 0 = λ ls. slice_get ls (length back - 1) ≡ Some link in
        subst P (sym is)
        (slice_get-get_or (reverse whole) (length back - 1) link (omega (arith, count, length-reverse whole))
        ∙ ap Some (get_or-reverse whole (length back - 1) link (omega (arith, count)) ∙ first (length whole - 1 - (length back - 1)) (omega (arith, count))))
      where
        first : (k : ℕ) → k ≡ 0 → get_or whole k link ≡ link
        first k zero = ap (λ (j : ℕ). get_or whole j link) zero

    go : (o : Option Raise) → IsSomeAnd o (λ r. r.link ≡ link) → IsSomeAnd o (λ r. EndsAt back r.link.relay r.link.step)
    go None here = absurd here
    go (Some raise) here = and_some (slice_get back (length back - 1)) (λ l. (l.relay ≡ raise.link.relay) × (l.step ≡ raise.link.step)) link last_there
        (ap (λ (l : Link). l.relay) (sym here), ap (λ (l : Link). l.step) (sym here))
