use Rattle.std.proofs.Common.{◌≡◌, ◌≤◌, ◌/◌, ◌^◌, ◌∷◌, [], ◌++◌, arith, length, take, ap, subst, vec_len, length-append}
use Rattle.std.specs.Fmt.{decimal}
use Rattle.std.proofs.Math.Nat.{one-le-pow}
use Rattle.std.proofs.lemmas.Grind.{common_steps}
use Rattle.coord_text.proofs.Fronts.{front_of_front, front_of_more}
use Rattle.coord_text.proofs.numbers.push_parts.Goals as goal

pub nonzero_div-n : goal.nonzero_div-n
nonzero_div-n c = rw c.pow.ensures (one-le-pow c.args.places 10 (omega arith))

pub returns-clause-front : goal.returns-clause-front
returns-clause-front c =
    let out = c.args.out.now.items in
    let mid = c.push.new.self.items in
    let more = decimal (c.args.n / 10 ^ c.args.places) ++ 46 ∷ [] in
    let is : mid ≡ out ++ more = grind (arith, common_steps) in
    let long : vec_len c.args.out.now ≡ length out = c.args.out.now.ok.0 in
    let last = c.push_digits.new.out.items in
    let behind : take (length mid) last ≡ mid = subst (λ k. take k last ≡ mid) c.push.new.self.ok.0 c.push_digits.ensures.front in
    let within : vec_len c.args.out.now ≤ length mid = omega (arith, ap length is, length-append out more) in
    front_of_front out mid last (vec_len c.args.out.now) (rw is (front_of_more out more (vec_len c.args.out.now) long)) behind within
