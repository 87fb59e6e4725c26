use Rattle.std.proofs.Common.{◌≡◌, length, map, take}
use Rattle.cert_text.proofs.settings.put_steps.Given as goal

abbrev pub invariant-loop-i : goal.invariant-loop-i
invariant-loop-i l = record {
  pickup : take l.i l.choice.pickup.items ≡ map (λ w. w.row) (take l.i l.pairs);
  dial : take l.i l.choice.dial.items ≡ map (λ w. w.weight) (take l.i l.pairs);
  pickup_room : length l.choice.pickup.items ≡ 96;
  dial_room : length l.choice.dial.items ≡ 96;
}
