-- Each event is counted in one column, so that the columns of a row add up to what its events count.
use Rattle.std.proofs.Common.{◌≡◌, ◌∙◌, ℕ, ◌+◌, ◌^◌, ◌≤◌, ◌<◌, ◌==◌, nat_lt, Bool, true, false, if◌then◌else◌, List, [], ◌∷◌, ◌++◌, map, sum, refl, sym, ap, arith}
use Rattle.std.specs.Prelude.{◌||◌, sum_by}
use Rattle.std.specs.List.{list_any}
use Rattle.std.proofs.lemmas.Grind.{common_steps}
use Rattle.std.proofs.lemmas.List.Sums.{sum-map, sum_by-cons, sum_by-le-sum_by, sum_by_from}
use Rattle.insight_model.specs.declared.cycle_cause.CycleCause.{CycleCause}
use Rattle.insight_model.specs.declared.cycle_cause.CycleCause.TheVariants as cause
use Rattle.insight_model.specs.Profile.{Column, Event, amount_in, column_place, event_columns, profile_numbers, spent, spent_columns, spent_in}
use Rattle.insight_model.specs.Profile as profile
use Rattle.insight_laws.proofs.Counting.{sum_by_added, sum_by_nothing}
use Rattle.cycle_watch.specs.declared.profile_row.ProfileRow.{ProfileRow}
use Rattle.cycle_watch.specs.Profiled.{HasCounts, capped, numbers_of}
use Rattle.cycle_watch.proofs.RowCounts.{amount_of}
use Rattle.cycle_watch.proofs.Weights.{weight}

-- what a number of events of a column count in some columns
abbrev counted_in : Column → ℕ → List Column → ℕ
counted_in column n columns = sum (map (λ c. if column_place column == column_place c then n else 0) columns)

spent_once : (c : CycleCause) (n : ℕ) → counted_in (spent c) n spent_columns ≡ n
spent_once cause.Commit n = omega arith
spent_once cause.Alu n = omega arith
spent_once cause.Mul n = omega arith
spent_once cause.Div n = omega arith
spent_once cause.Load n = omega arith
spent_once cause.Store n = omega arith
spent_once cause.Device n = omega arith
spent_once cause.Serial n = omega arith
spent_once cause.Operand n = omega arith
spent_once cause.Dcache n = omega arith
spent_once cause.Icache n = omega arith
spent_once cause.Window n = omega arith
spent_once cause.Stations n = omega arith
spent_once cause.Mispredict n = omega arith
spent_once cause.Trap n = omega arith
spent_once cause.Interrupt n = omega arith
spent_once cause.Replay n = omega arith
spent_once cause.Fence n = omega arith
spent_once cause.Start n = omega arith

spent_elsewhere : (c : CycleCause) (n : ℕ) → counted_in (spent c) n event_columns ≡ 0
spent_elsewhere cause.Commit n = omega arith
spent_elsewhere cause.Alu n = omega arith
spent_elsewhere cause.Mul n = omega arith
spent_elsewhere cause.Div n = omega arith
spent_elsewhere cause.Load n = omega arith
spent_elsewhere cause.Store n = omega arith
spent_elsewhere cause.Device n = omega arith
spent_elsewhere cause.Serial n = omega arith
spent_elsewhere cause.Operand n = omega arith
spent_elsewhere cause.Dcache n = omega arith
spent_elsewhere cause.Icache n = omega arith
spent_elsewhere cause.Window n = omega arith
spent_elsewhere cause.Stations n = omega arith
spent_elsewhere cause.Mispredict n = omega arith
spent_elsewhere cause.Trap n = omega arith
spent_elsewhere cause.Interrupt n = omega arith
spent_elsewhere cause.Replay n = omega arith
spent_elsewhere cause.Fence n = omega arith
spent_elsewhere cause.Start n = omega arith

pub in_one : (column : Column) (n : ℕ) → counted_in column n event_columns + counted_in column n spent_columns ≡ n
in_one profile.retired n = omega arith
in_one profile.trapped n = omega arith
in_one profile.taken n = omega arith
in_one profile.fetched n = omega arith
in_one profile.squashed n = omega arith
in_one profile.mispredicted n = omega arith
in_one profile.icache_accesses n = omega arith
in_one profile.icache_misses n = omega arith
in_one profile.dcache_accesses n = omega arith
in_one profile.dcache_misses n = omega arith
in_one profile.l2_accesses n = omega arith
in_one profile.l2_misses n = omega arith
in_one profile.writebacks n = omega arith
in_one (profile.spent c) n = omega (arith, spent_once c n, spent_elsewhere c n)

-- how many cycles an event counts
unfoldable pub cycles_in : Event → ℕ
cycles_in event = sum (map (λ c. amount_of c event) spent_columns)

pub cycle_is : (event : Event) (c : CycleCause) → event.column ≡ spent c → cycles_in event ≡ event.amount
unfolding cycles_in
cycle_is event c is = ap (λ (column : Column). counted_in column event.amount spent_columns) is ∙ spent_once c event.amount

none_spent : (column : Column) (n : ℕ) → column_place column < 13 → counted_in column n spent_columns ≡ 0
none_spent profile.retired n below = omega arith
none_spent profile.trapped n below = omega arith
none_spent profile.taken n below = omega arith
none_spent profile.fetched n below = omega arith
none_spent profile.squashed n below = omega arith
none_spent profile.mispredicted n below = omega arith
none_spent profile.icache_accesses n below = omega arith
none_spent profile.icache_misses n below = omega arith
none_spent profile.dcache_accesses n below = omega arith
none_spent profile.dcache_misses n below = omega arith
none_spent profile.l2_accesses n below = omega arith
none_spent profile.l2_misses n below = omega arith
none_spent profile.writebacks n below = omega arith
none_spent (profile.spent c) n below = absurd (omega (arith, below))

pub other_is : (event : Event) → column_place event.column < 13 → cycles_in event ≡ 0
unfolding cycles_in
other_is event below = none_spent event.column event.amount below

-- sums of several columns
sums_next : (columns : List Column) (event : Event) (own : List Event) →
    sum (map (λ c. amount_in c (event ∷ own)) columns) ≡ sum (map (λ c. amount_of c event) columns) + sum (map (λ c. amount_in c own) columns)
sums_next columns event own =
    sum-map (λ c. amount_in c (event ∷ own)) columns
    ∙ sum_by_added (λ c. amount_of c event) (λ c. amount_in c own) (λ c. amount_in c (event ∷ own)) (λ c. sum_by-cons (amount_of c) event own) columns
    ∙ (λ i. sym (sum-map (λ c. amount_of c event) columns) i + sym (sum-map (λ c. amount_in c own) columns) i)

none_of : (columns : List Column) → sum (map (λ c. amount_in c []) columns) ≡ 0
none_of columns = sum-map (λ c. amount_in c []) columns ∙ sum_by_nothing columns

pub spent_sum : (own : List Event) → sum (spent_in own) ≡ sum_by cycles_in own
unfolding cycles_in
spent_sum [] = none_of spent_columns
spent_sum (event ∷ own) = sums_next spent_columns event own ∙ ap (λ (n : ℕ). cycles_in event + n) (spent_sum own) ∙ sym (sum_by-cons cycles_in event own)

mixed : (a b c d : ℕ) → a + b + (c + d) ≡ a + c + (b + d)
mixed a b c d = omega arith

pub all_sum : (own : List Event) → sum (map (λ c. amount_in c own) event_columns) + sum (spent_in own) ≡ weight own
all_sum [] = omega (arith, none_of event_columns, none_of spent_columns)
all_sum (event ∷ own) =
    (λ i. sums_next event_columns event own i + sums_next spent_columns event own i)
    ∙ mixed (counted_in event.column event.amount event_columns) (sum (map (λ c. amount_in c own) event_columns)) (counted_in event.column event.amount spent_columns) (sum (spent_in own))
    ∙ (λ i. in_one event.column event.amount i + all_sum own i)
    ∙ sym (sum_by-cons (λ (e : Event). e.amount) event own)

-- one column counts no more than all
amount_most : (column : Column) (event : Event) → amount_of column event ≤ event.amount
amount_most column event = by (column_place event.column == column_place column)
  where
    by : (b : Bool) → (if b then event.amount else 0) ≤ event.amount
    by true = omega arith
    by false = omega arith

pub amount_within : (column : Column) (own : List Event) → amount_in column own ≤ weight own
amount_within column own = sum_by-le-sum_by (amount_of column) (λ (e : Event). e.amount) own (amount_most column)

-- So the numbers of a row are those of the definition where they have room.
uncapped : (columns : List Column) (own : List Event) → weight own < 2 ^ 63 → map (λ c. capped 0 (amount_in c own)) columns ≡ map (λ c. amount_in c own) columns
uncapped [] own small = refl
uncapped (column ∷ columns) own small =
    let fit : capped 0 (amount_in column own) ≡ amount_in column own = omega (arith, amount_within column own, small) in
    λ i. fit i ∷ uncapped columns own small i

pub spent_is : (own : List Event) (row : ProfileRow) → HasCounts own row → weight own < 2 ^ 63 → row.spent ≡ spent_in own
spent_is own row has small = has.spent ∙ uncapped spent_columns own small

pub numbers_are : (own : List Event) (row : ProfileRow) → HasCounts own row → weight own < 2 ^ 63 → numbers_of row ≡ profile_numbers own
numbers_are own row has small =
    let spent_there : row.spent ≡ spent_in own = spent_is own row has small in
    let fit : capped 0 (sum (spent_in own)) ≡ sum (spent_in own) = omega (arith, all_sum own, small) in
    λ i. (has.counts ∙ uncapped event_columns own small) i ++ (ap (λ (ns : List ℕ). capped 0 (sum ns)) spent_there ∙ fit) i ∷ spent_there i

-- something was counted where the sum isn't 0
sum_cons : (n : ℕ) (ns : List ℕ) → sum (n ∷ ns) ≡ n + sum ns
sum_cons n ns =
    let whole : sum (n ∷ ns) ≡ 0 + n + sum_by (λ (k : ℕ). k) ns = sum_by_from (λ (k : ℕ). k) (0 + n) ns in
    let rest : sum ns ≡ 0 + sum_by (λ (k : ℕ). k) ns = sum_by_from (λ (k : ℕ). k) 0 ns in
    omega (arith, whole, rest)

any_sum : (ns : List ℕ) → list_any (λ number. nat_lt 0 number) ns ≡ nat_lt 0 (sum ns)
any_sum [] = refl
any_sum (n ∷ ns) = ap (λ (b : Bool). nat_lt 0 n || b) (any_sum ns) ∙ either n (sum ns) ∙ ap (λ (m : ℕ). nat_lt 0 m) (sym (sum_cons n ns))
  where
    either : (a b : ℕ) → (nat_lt 0 a || nat_lt 0 b) ≡ nat_lt 0 (a + b)
    either a b = grind (arith, common_steps)

sum_both : (ms ns : List ℕ) → sum (ms ++ ns) ≡ sum ms + sum ns
sum_both [] ns = let e : sum ns ≡ 0 + sum ns = omega arith in e
sum_both (m ∷ ms) ns =
    let e : m + (sum ms + sum ns) ≡ m + sum ms + sum ns = omega arith in
    sum_cons m (ms ++ ns) ∙ ap (λ (n : ℕ). m + n) (sum_both ms ns) ∙ e ∙ ap (λ (n : ℕ). n + sum ns) (sym (sum_cons m ms))

pub any_counted : (own : List Event) → list_any (λ number. nat_lt 0 number) (profile_numbers own) ≡ nat_lt 0 (weight own)
any_counted own =
    any_sum (profile_numbers own)
    ∙ ap (λ (n : ℕ). nat_lt 0 n) (sum_both (map (λ c. amount_in c own) event_columns) (sum (spent_in own) ∷ spent_in own))
    ∙ ap (λ (n : ℕ). nat_lt 0 (sum (map (λ c. amount_in c own) event_columns) + n)) (sum_cons (sum (spent_in own)) (spent_in own))
    ∙ twice (sum (map (λ c. amount_in c own) event_columns)) (sum (spent_in own)) (weight own) (all_sum own)
  where
    twice : (a b n : ℕ) → a + b ≡ n → nat_lt 0 (a + (b + b)) ≡ nat_lt 0 n
    twice a b n is = grind (arith, common_steps, is)
