-- No write of a CSR changes the count of retired instructions.
use Rattle.std.proofs.Common.{◌≡◌, ℕ, ◌==◌, List, [], ◌∷◌, Bool, true, false, if◌then◌else◌, Option, Some, refl}
use Rattle.machine_csr.specs.declared.csrs.Csrs.{Csrs}
use Rattle.machine_csr.specs.declared.csrs.CsrWrite.{CsrWrite}
use Rattle.machine_csr.specs.declared.csrs.CsrWrite.TheVariants as write
use Rattle.machine_csr.specs.Csr.{Row, rows, row_in, row_at, kept_by, csr_written}

abbrev pub Keeping : List Row → Type 0
Keeping [] = Unit {0}
Keeping (r ∷ rest) = ((csrs : Csrs) (value : ℕ) → (r.keeps csrs value).retired ≡ csrs.retired) × Keeping rest

kept_if : (here : Bool) (r : Row) (other : Option Row) (csrs : Csrs) (value : ℕ) → (r.keeps csrs value).retired ≡ csrs.retired →
    (kept_by other csrs value).retired ≡ csrs.retired → (kept_by (if here then Some r else other) csrs value).retired ≡ csrs.retired
kept_if true r other csrs value first second = first
kept_if false r other csrs value first second = second

kept_in : (table : List Row) → Keeping table → (csr : ℕ) (csrs : Csrs) (value : ℕ) → (kept_by (row_in table csr) csrs value).retired ≡ csrs.retired
kept_in [] keeps csr csrs value = refl
kept_in (r ∷ rest) keeps csr csrs value =
    kept_if (r.address == csr) r (row_in rest csr) csrs value (keeps.0 csrs value) (kept_in rest keeps.1 csr csrs value)

-- one proof for each row of the table, in its order
rows_keep : Keeping rows
rows_keep = (λ s v. refl, (λ s v. refl, (λ s v. refl, (λ s v. refl, (λ s v. refl, (λ s v. refl, (λ s v. refl, (λ s v. refl, (λ s v. refl, (λ s v. refl, (λ s v. refl, (λ s v. refl, (λ s v. refl, (λ s v. refl, (λ s v. refl, (λ s v. refl, (λ s v. refl, (λ s v. refl, (λ s v. refl, (λ s v. refl, (λ s v. refl, (λ s v. refl, (λ s v. refl, (λ s v. refl, (λ s v. refl, (λ s v. refl, (λ s v. refl, (λ s v. refl, tt))))))))))))))))))))))))))))

pub written_retired : (w : CsrWrite) (csrs : Csrs) → (csr_written w csrs).retired ≡ csrs.retired
unfolding csr_written row_at
written_retired write.Nothing csrs = refl
written_retired (write.Put csr value) csrs = kept_in rows rows_keep csr csrs value
