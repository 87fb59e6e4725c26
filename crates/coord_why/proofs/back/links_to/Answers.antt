use Rattle.std.specs.Prelude.{slice_get, slice_index_or}
use Rattle.std.proofs.Common.{◌≡◌, ℕ, ◌+◌, ◌≤◌, List, ◌++◌, ◌∷◌, [], Some, Option, arith, length, reverse, subst, sym}
use Rattle.std.proofs.lemmas.Option.{slice_get-get_or}
use Rattle.coord_why.specs.Chains.{Follow}
use Rattle.coord_why.specs.Raises.{IsOnWay, base_of, rests_left}
use Rattle.coord_why.specs.declared.link.Link.{Link}
use Rattle.coord_why.proofs.Walked.{more_few, more_follows, more_on_way, way_ends}
use Rattle.coord_why.proofs.back.links_to.Goals as goal

pub loop-next-preserved : goal.loop-next-preserved
loop-next-preserved c =
    let raises = c.args.raises.now in
    let number = c.in-Some.number in
    let links = c.loop-next.links.items in
    let so = c.loop-next.invariant in
    let room : Option ℕ → Type 0 = λ next. length links + rests_left next ≤ length raises in
    let few : length links + (number + 1) ≤ length raises = subst room c.in-Some.is so.few in
    let raise = slice_index_or raises number _ in
    let found : slice_get raises number ≡ Some raise = slice_get-get_or raises number _ (omega (arith, few)) in
    let pushed : c.push.new.self.items ≡ links ++ raise.link ∷ [] = c.in_ok-push.ensures.items in
    record {
      follows = λ case pickups founded.
          let P : List Link → Type 0 = λ ls. Follow case pickups (base_of raises raise.rests) (reverse ls) in
          let Q : Option ℕ → Type 0 = λ next. Follow case pickups (base_of raises next) (reverse links) in
          subst P (sym pushed) (more_follows case pickups raises links number raise founded found (subst Q c.in-Some.is (so.follows case pickups founded)));
      on_way =
          let P : List Link → Type 0 = λ ls. IsOnWay raises c.args.last raise.rests ls in
          subst P (sym pushed) (more_on_way raises c.args.last number c.loop-next.next links raise c.in-Some.is found so.on_way);
      few =
          let P : List Link → Type 0 = λ ls. length ls + rests_left raise.rests ≤ length raises in
          subst P (sym pushed) (more_few raises links number raise c.requires.earlier found few);
    }

pub returns-clause-ends : goal.returns-clause-ends
returns-clause-ends c =
    way_ends c.args.raises.now c.args.last c.loop-next.next c.loop-next.links.items _ c.in_default.is c.loop-next.invariant.on_way c.reverse.ensures.items
