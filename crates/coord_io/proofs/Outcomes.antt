-- Facts for one outcome of a call.
use Rattle.std.proofs.Common.{◌≡◌, cond, List, Result, Ok, Err, is_ok, OnOk, OnErr, ℕ}

-- what follows where a call that changes a list only if it succeeds did so, and where it didn't
pub on_ok : {T E : Type 0} {P : Type 0} (r : Result T E) (new changed old : List ℕ) → new ≡ cond (is_ok r) changed old → (new ≡ changed → P) → OnOk r P
on_ok (Ok x) new changed old is then = then is
on_ok (Err e) new changed old is then = tt

pub on_err : {T E : Type 0} {P : Type 0} (r : Result T E) (new changed old : List ℕ) → new ≡ cond (is_ok r) changed old → (new ≡ old → P) → OnErr r P
on_err (Ok x) new changed old is then = tt
on_err (Err e) new changed old is then = then is

-- what holds anyway holds where a call fails
pub always_on_err : {T E : Type 0} {P : Type 0} (r : Result T E) → P → OnErr r P
always_on_err (Ok x) holds = tt
always_on_err (Err e) holds = holds

-- what follows from a fact for one outcome, for that outcome
pub ok_as : {T E : Type 0} {P Q : Type 0} (r : Result T E) → OnOk r P → (P → Q) → OnOk r Q
ok_as (Ok x) holds then = then holds
ok_as (Err e) holds then = tt

pub err_as : {T E : Type 0} {P Q : Type 0} (r : Result T E) → OnErr r P → (P → Q) → OnErr r Q
err_as (Ok x) holds then = tt
err_as (Err e) holds then = then holds
