-- Reports that are given job by job are those of all jobs, in order.
use Rattle.std.proofs.Common.{◌≡◌, ℕ, suc, ◌<◌, List, [], ◌∷◌, length, map, slice_index_or, Result, Ok, Err, IfOk, refl, ap, sym, ◌∙◌, subst, arith}
use Rattle.std.proofs.lemmas.List.{length-map}
use Rattle.fsim_base.specs.declared.NoMemory.{NoMemory}
use Rattle.mono_model.specs.declared.final_state.Final.{Final}

-- what was given of the job at a place is the report of its run
pub record IsGiven {J : Type 0} (last_of : J → Final) (jobs : List J) (i : ℕ) (given : Result Final NoMemory) : Type 0 where
  pub job : J
  pub is : (other : J) → slice_index_or jobs i other ≡ job
  pub last : IfOk given (λ last. last ≡ last_of job)

all-given : {J : Type 0} (last_of : J → Final) (jobs : List J) (finals : List Final) → length finals ≡ length jobs
    → ((i : ℕ) (other : Result Final NoMemory) → i < length jobs → IsGiven last_of jobs i (slice_index_or (map (λ last. Ok last) finals) i other))
    → finals ≡ map last_of jobs
all-given last_of [] [] same each = refl
all-given last_of [] (last ∷ finals) same each = absurd (omega (arith, same))
all-given last_of (job ∷ jobs) [] same each = absurd (omega (arith, same))
all-given last_of (job ∷ jobs) (last ∷ finals) same each =
    let head : IsGiven last_of (job ∷ jobs) 0 (Ok last) = each 0 (Ok last) (omega arith) in
    let here : last ≡ last_of job = head.last ∙ ap last_of (sym (head.is job)) in
    let rest : finals ≡ map last_of jobs = all-given last_of jobs finals (omega (arith, same))
    (λ i other inside. let next = each (suc i) other (omega (arith, inside)) in record { job = next.job; is = next.is; last = next.last }) in
    λ k. here k ∷ rest k

pub lasts-given : {J : Type 0} (last_of : J → Final) (jobs : List J) (played : List (Result Final NoMemory)) (finals : List Final)
    → length played ≡ length jobs → map (λ last. Ok last) finals ≡ played
    → ((i : ℕ) (other : Result Final NoMemory) → i < length jobs → IsGiven last_of jobs i (slice_index_or played i other))
    → finals ≡ map last_of jobs
lasts-given last_of jobs played finals same found each =
    let many : length (map (λ last. Ok last) finals) ≡ length jobs = ap length found ∙ same in
    all-given last_of jobs finals (sym (length-map finals (λ last. Ok last)) ∙ many)
    (λ i other inside. subst (λ (given : List (Result Final NoMemory)). IsGiven last_of jobs i (slice_index_or given i other)) (sym found) (each i other inside))

-- what holds of a value, where there is one, gives what follows from it
pub through : {A E : Type 0} {P Q : A → Type 0} (r : Result A E) → IfOk r P → ((value : A) → P value → Q value) → IfOk r Q
through (Ok value) holds next = next value holds
through (Err refusal) holds next = holds
