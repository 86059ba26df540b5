-- What a parse by clap says of `values_in`.
use Rattle.std.proofs.Common.{◌≡◌, ◌∙◌, ◌&&◌, ◌⊎◌, inl, inr, Bool, true, false, List, [], ◌∷◌, refl, ap, sym}
use Rattle.std.specs.Prelude.{Some, None}
use Rattle.clap.specs.Walk.{Row, Text}
use Rattle.clap.specs.Simple.{App, is_simple, matches_of}
use Rattle.clap.specs.Kinds.{IsAmong, Kinds}
use Rattle.clap.specs.Faults.{fault_of, is_free_app, is_simple_and_free}
use Rattle.clap.specs.Simple.{built}
use Rattle.clap.specs.declared.error.kind.ErrorKind.{ErrorKind}
use Rattle.clap.specs.declared.error.kind.ErrorKind.TheVariants.{OutOfMemory}
use Rattle.fast_cli.specs.Command.{accepted, parsed, values_among}

and_left : (a b : Bool) → (a && b) ≡ true → a ≡ true
and_left true b e = refl
and_left false b e = e

pub simple_of_free : (a : App) → is_simple_and_free a ≡ true → is_simple a ≡ true
simple_of_free a e = and_left (is_simple a) (is_free_app (built a)) e

refused : {A : Type 0} (kinds : Kinds) (kind : ErrorKind) (found : A) → IsAmong kind kinds → accepted kinds found ≡ None
refused [] kind found among = absurd among
refused (k ∷ ks) kind found among = refl

pub parsed-some : (a : App) (words : List Text) (rows : List Row) → fault_of a words ≡ [] → rows ≡ matches_of a words
    → parsed a words ≡ Some (values_among rows)
unfolding parsed
parsed-some a words rows no_fault same = ap (λ kinds. accepted kinds (values_among (matches_of a words))) no_fault ∙ ap (λ r. Some (values_among r)) (sym same)

pub parsed-none : (a : App) (words : List Text) (kind : ErrorKind) → (kind ≡ OutOfMemory) ⊎ IsAmong kind (fault_of a words)
    → (kind ≡ OutOfMemory → ⊥) → parsed a words ≡ None
unfolding parsed
parsed-none a words kind (inl memory) other = absurd (other memory)
parsed-none a words kind (inr among) other = refused (fault_of a words) kind (values_among (matches_of a words)) among
