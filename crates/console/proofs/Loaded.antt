-- What reading a file has answered.
use Rattle.std.proofs.Common.{Ok, Err, IsOk, OnOk, Result}

pub on_ok : {E : Type 0} (r : Result (Unit {0}) E) (P : Type 0) → IsOk r → OnOk r P → P
on_ok (Ok done) P is p = p
on_ok (Err why) P is p = cc
