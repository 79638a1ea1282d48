use Rattle.std.proofs.Common.{◌≡◌, rules}
use Rattle.lane_yard.specs.Records.{time_of}
use Rattle.lane_yard.proofs.Found.{found, missing}
use Rattle.lane_yard.proofs.Listed.{lanes_listed}
use Rattle.lane_yard.proofs.yards.calls.LaneYardYard.travel_time.Goals as goal

pub returns : goal.returns
returns c =
    let lanes = c.lanes.ensures in
    let told : c.map.result ≡ time_of c.narrow-part.result.now c.args.from c.args.to = search (rules, found c.narrow-part.result.now c.args.from c.args.to, missing c.narrow-part.result.now c.args.from c.args.to) in
    rw (← lanes.value, told, c.narrow-part.ensures.same) (record { value = search rules; tells = lanes_listed _ lanes.lawful.1.1 c.args.from c.args.to })
