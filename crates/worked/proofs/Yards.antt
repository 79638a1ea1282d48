-- Lists of lanes that may be laid and lists that are refused, and grids without lanes, by tests.
use Rattle.std.proofs.Common.{◌≡◌, ℕ, zero, suc, ◌+◌, ◌-◌, ◌*◌, ◌<◌, ◌≤◌, Bool, true, not, ◌&&◌, ◌||◌, eqb, ltb, leb, List, [], ◌∷◌, length, slice_index_or, is_some, None, Decides, refl, subst, arith}
use Rattle.std.specs.List.{list_all}
use Rattle.std.proofs.iter.runs.Lists.{none-some}
use Rattle.std.proofs.lemmas.Bool.{and_parts}
use Rattle.std.proofs.lemmas.Bool.Decides.{Decides-and, Decides-not, Decides-ltb, Decides-like, Decides-below_and, nat_tests}
use Rattle.lane_yard.specs.declared.lane.Lane.{Lane}
use Rattle.lane_yard.specs.declared.refusal.LayRefusal.{LayRefusal}
use Rattle.lane_yard.specs.declared.refusal.LayRefusal.TheVariants.{BadLane, NotRising, TooManyLanes}
use Rattle.lane_yard.specs.Faults.{Clean, Lawful, Fault}
use Rattle.lane_yard.specs.Records.{Within, Before, no_lane, time_of}
use Rattle.grid_yard.specs.declared.plan.Plan.{Plan}
use Rattle.grid_yard.specs.Times.{time_of as grid_time}
use Rattle.plan.specs.Theorems.{Positive}
use Rattle.worked.proofs.Entries.{decides_leb}

-- every travel time of the list is at least 1
abbrev pub positive? : List Lane → Bool
positive? xs = list_all (λ (l : Lane). leb 1 l.time) xs

pub positive : (xs : List Lane) → positive? xs ≡ true → Positive (time_of xs)
positive [] h u v d e = absurd (none-some d e)
positive (l ∷ ls) h u v d e =
    let p = and_parts (leb 1 l.time) (positive? ls) h in
    let later = positive ls p.1 u v d in
    grind (arith, nat_tests)

-- a test passes at every number below n
abbrev below? : (ℕ → Bool) → ℕ → Bool
below? t zero = true
below? t (suc n) = t n && below? t n

abbrev within? : Lane → Bool
within? l = leb l.from 4095 && (leb l.to 4095 && (not (eqb l.from l.to) && (leb 1 l.time && leb l.time 36000)))

decides_within : (l : Lane) → Decides (within? l) (Within l)
decides_within l = grind (arith, nat_tests)

abbrev before? : Lane → Lane → Bool
before? a b = leb a.from b.from && (not (eqb a.from b.from) || ltb a.to b.to)

decides_before : (a b : Lane) → Decides (before? a b) (Before a b)
decides_before a b = grind (arith, nat_tests)

-- the lanes below n are within the limits and rise
abbrev clean? : List Lane → ℕ → Bool
clean? xs n = below? (λ k. within? (slice_index_or xs k no_lane)) n && below? (λ k. before? (slice_index_or xs k no_lane) (slice_index_or xs (k + 1) no_lane)) (n - 1)

decides_below : (t : ℕ → Bool) (P : ℕ → Type 0) → ((k : ℕ) → Decides (t k) (P k)) → (n : ℕ) → Decides (below? t n) ((k : ℕ) → k < n → P k)
decides_below t P each = Decides-below_and t P (below? t) each refl (λ _. refl)

decides_clean : (xs : List Lane) (n : ℕ) → Decides (clean? xs n) (Clean xs n)
decides_clean xs n =
    Decides-and _ _
    (decides_below _ _ (λ k. decides_within (slice_index_or xs k no_lane)) n)
    (Decides-like _ (λ rise k l. rise k (omega arith)) (λ rise k l. rise k (omega arith)) (decides_below _ _ (λ k. decides_before (slice_index_or xs k no_lane) (slice_index_or xs (k + 1) no_lane)) (n - 1)))

-- a list that may be laid
abbrev pub lawful? : List Lane → Bool
lawful? xs = leb (length xs) 8192 && clean? xs (length xs)

pub lawful : (xs : List Lane) → lawful? xs ≡ true → Lawful xs
lawful xs = (Decides-and _ _ (decides_leb (length xs) 8192) (decides_clean xs (length xs))).0

-- a list that is refused
abbrev pub fault? : List Lane → LayRefusal → Bool
fault? xs TooManyLanes = ltb 8192 (length xs)
fault? xs (BadLane i) = leb (length xs) 8192 && (ltb i (length xs) && (clean? xs i && not (within? (slice_index_or xs i no_lane))))
fault? xs (NotRising i) = leb (length xs) 8192 && (ltb i (length xs) && (clean? xs i && (within? (slice_index_or xs i no_lane) && (ltb 0 i && not (before? (slice_index_or xs (i - 1) no_lane) (slice_index_or xs i no_lane))))))

-- a fault of the lane at i, after lanes that are not too many and clean up to it
decides_fault_at : {Faulty : Type 0} (xs : List Lane) (i : ℕ) (t : Bool) → Decides t Faulty → Decides (leb (length xs) 8192 && (ltb i (length xs) && (clean? xs i && t))) ((length xs ≤ 8192) × ((i < length xs) × (Clean xs i × Faulty)))
decides_fault_at xs i t d =
    Decides-and _ _ (decides_leb _ _) (Decides-and _ _ (Decides-ltb _ _) (Decides-and _ _ (decides_clean xs i) d))

pub fault : (xs : List Lane) (e : LayRefusal) → fault? xs e ≡ true → Fault xs e
fault xs TooManyLanes h = (Decides-ltb 8192 (length xs)).0 h
fault xs (BadLane i) h =
    let (few, (inside, (clean, bad))) = (decides_fault_at xs i _ (Decides-not _ (decides_within (slice_index_or xs i no_lane)))).0 h in
    (few, inside, clean, bad)
fault xs (NotRising i) h =
    let last = slice_index_or xs i no_lane in
    let rising = decides_before (slice_index_or xs (i - 1) no_lane) last in
    let (few, (inside, (clean, (within, (some, falls))))) = (decides_fault_at xs i _ (Decides-and _ _ (decides_within last) (Decides-and _ _ (Decides-ltb 0 i) (Decides-not _ rising)))).0 h in
    (few, inside, clean, within, some, λ k e. let same : i - 1 ≡ k = omega arith in subst (λ j. ¬ Before (slice_index_or xs j no_lane) last) same falls)

-- a grid without a lane between any two of its cells
abbrev pub laneless? : Plan → List ℕ → Bool
laneless? g words = let cells = g.rows * g.columns in below? (λ a. below? (λ b. not (is_some (grid_time g words a b))) cells) cells

-- and it has none anywhere: no lane leads from or to what is no cell
pub laneless : (g : Plan) (words : List ℕ) → laneless? g words ≡ true → (a b : ℕ) → grid_time g words a b ≡ None
laneless g words h a b =
    let cells = g.rows * g.columns in
    let there = (decides_below (λ u. below? (λ v. not (is_some (grid_time g words u v))) cells) (λ u. (v : ℕ) → v < cells → not (is_some (grid_time g words u v)) ≡ true) (λ u. decides_below _ _ (λ v. (λ e. e, λ e. e)) cells) cells).0 h in
    grind (arith, nat_tests, there)
