-- Files that are read one after the other.
use Rattle.std.proofs.Common.{◌≡◌, ◌≢◌, ◌≤◌, ◌<◌, ◌+◌, ℕ, suc, nat_lt, if◌then◌else◌, true, false, List, [], ◌∷◌, ◌++◌, length, take, drop, get_or, drop-cons, Option, Some, None, Result, Ok, Err, IfErr, ap, sym, refl, ◌∙◌, subst, arith}
use Rattle.std.proofs.Math.Seq.{take-suc}
use Rattle.std.proofs.lemmas.List.{take-append-drop, take_all}
use Rattle.fsim_ports.specs.Files.{Names, Holding, Untold, Absent, Holds, holding_of, holding_among, lookup, IsGone}
use Rattle.fsim_ports.specs.Loading.{IsWhole, IsLoad}
use Rattle.fsim_ports.specs.declared.load.LoadFault.{LoadFault}
use Rattle.fsim_ports.specs.declared.load.LoadFault.TheVariants as load
use Rattle.report_text.specs.declared.status.Role.{Role}
use Rattle.report_text.specs.declared.status.Status.{Status}
use Rattle.report_text.specs.declared.status.Status.TheVariants.{Memory, TooLong}
use Rattle.fast_jobs.specs.declared.files.NamedFile.{NamedFile}
use Rattle.fast_jobs.specs.Call.{Faults, IsQuiet}
use Rattle.fast_jobs.specs.Files.{limit_of}
use Rattle.fast_jobs.specs.Gives.{◌>>=◌}
use Rattle.fast_jobs.specs.Reading.{AreRead, AreWithin, IsRead, StopsAt, StopsIn, held_bytes, status_of_load, told_bytes, told_contents}

pub read-append : (told : Option Names) (files : List NamedFile) (contents : List (List ℕ)) (file : NamedFile) (bytes : List ℕ) → AreRead told files contents →
    IsRead told file bytes → AreRead told (files ++ file ∷ []) (contents ++ bytes ∷ [])
read-append told [] [] file bytes read one = (one, tt)
read-append told [] (x ∷ contents) file bytes read one = absurd read
read-append told (f ∷ files) [] file bytes read one = absurd read
read-append told (f ∷ files) (x ∷ contents) file bytes read one = (read.0, read-append told files contents file bytes read.1 one)

pub read-within : (told : Option Names) (files : List NamedFile) (contents : List (List ℕ)) → AreRead told files contents → AreWithin files contents
read-within told [] [] read = tt
read-within told [] (x ∷ contents) read = absurd read
read-within told (f ∷ files) [] read = absurd read
read-within told (f ∷ files) (x ∷ contents) read = (read.0.within, read-within told files contents read.1)

-- A file that could not be read since a later call could not since an earlier one.
gone-since : (holding : Holding) (f g h : ℕ) → f ≤ g → IsGone holding g h → IsGone holding f h
gone-since Untold f g h earlier gone = omega (arith, gone)
gone-since Absent f g h earlier gone = tt
gone-since (Holds bytes) f g h earlier gone = gone

pub load-since : (holding : Holding) (limit f g h : ℕ) (fault : LoadFault) → f ≤ g → IsLoad holding limit g h (Err fault) → IsLoad holding limit f h (Err fault)
load-since holding limit f g h load.Missing earlier is = gone-since holding f g h earlier is
load-since holding limit f g h load.Failed earlier is = record { rose = omega (arith, is.rose); there = is.there }
load-since holding limit f g h load.TooLong earlier is = is
load-since holding limit f g h load.Memory earlier is = is

-- Where the names are told, what was read is what they hold.
held-read : (role : Role) (found : Option (List ℕ)) (bytes : List ℕ) → IsWhole (holding_among found) (limit_of role) bytes → held_bytes role found ≡ Ok bytes
held-read role None bytes whole = absurd whole.content
held-read role (Some file) bytes whole =
    let same : bytes ≡ file = whole.content in
    let short : length file ≤ limit_of role = subst (λ (xs : List ℕ). length xs ≤ limit_of role) same whole.within in
    let test : nat_lt (limit_of role) (length file) ≡ false = grind (arith, short) in
    ap (λ b. if b then Err (TooLong role (limit_of role)) else Ok file) test ∙ ap Ok (sym same)

pub told-read : (names : Names) (files : List NamedFile) (contents : List (List ℕ)) → AreRead (Some names) files contents → told_contents names files ≡ Ok contents
told-read names [] [] read = refl
told-read names [] (x ∷ contents) read = absurd read
told-read names (f ∷ files) [] read = absurd read
told-read names (f ∷ files) (x ∷ contents) read =
    ap (λ (r : Result (List ℕ) Status). r >>= λ bytes. told_contents names files >>= λ rest. Ok (bytes ∷ rest)) (held-read f.role (lookup names f.name) x read.0)
    ∙ ap (λ (r : Result (List (List ℕ)) Status). r >>= λ rest. Ok (x ∷ rest)) (told-read names files contents read.1)

-- and what could not be read is refused by them
held-refused : (role : Role) (found : Option (List ℕ)) (count : ℕ) (fault : LoadFault) → IsQuiet (record { before = count; after = count }) →
    IsLoad (holding_among found) (limit_of role) count count (Err fault) → status_of_load role fault ≢ Memory → held_bytes role found ≡ Err (status_of_load role fault)
held-refused role None count load.Missing quiet is other = refl
held-refused role (Some file) count load.Missing quiet is other = absurd is
held-refused role found count load.Failed quiet is other = absurd (omega (arith, is.rose, quiet.room))
held-refused role None count load.TooLong quiet is other = absurd is.content
held-refused role (Some file) count load.TooLong quiet is other =
    let long : limit_of role < length file = is.content in
    let test : nat_lt (limit_of role) (length file) ≡ true = grind (arith, long) in
    ap (λ b. if b then Err (TooLong role (limit_of role)) else Ok file) test
held-refused role found count load.Memory quiet is other = absurd (other refl)

stops-refused : (names : Names) (faults : Faults) (file : NamedFile) (status : Status) → IsQuiet faults → StopsAt (record { told = Some names; faults = faults }) file status → status ≢ Memory →
    told_bytes names file ≡ Err status
stops-refused names faults file status quiet stop other =
    let P : ℕ → Type 0 = λ after. IsLoad (holding_among (lookup names file.name)) (limit_of file.role) faults.before after (Err stop.fault) in
    held-refused file.role (lookup names file.name) faults.before stop.fault (record { same = refl; room = quiet.room }) (subst P quiet.same stop.load)
    (λ memory. other (stop.same ∙ memory))
    ∙ ap Err (sym stop.same)

stopped-behind : (names : Names) (before behind : List NamedFile) (file : NamedFile) (contents : List (List ℕ)) (status : Status) → AreRead (Some names) before contents →
    told_bytes names file ≡ Err status → told_contents names (before ++ file ∷ behind) ≡ Err status
stopped-behind names [] behind file [] status read refused =
    ap (λ (r : Result (List ℕ) Status). r >>= λ bytes. told_contents names behind >>= λ rest. Ok (bytes ∷ rest)) refused
stopped-behind names [] behind file (x ∷ contents) status read refused = absurd read
stopped-behind names (f ∷ before) behind file [] status read refused = absurd read
stopped-behind names (f ∷ before) behind file (x ∷ contents) status read refused =
    ap (λ (r : Result (List ℕ) Status). r >>= λ bytes. told_contents names (before ++ file ∷ behind) >>= λ rest. Ok (bytes ∷ rest)) (held-read f.role (lookup names f.name) x read.0)
    ∙ ap (λ (r : Result (List (List ℕ)) Status). r >>= λ rest. Ok (x ∷ rest)) (stopped-behind names before behind file contents status read.1 refused)

pub told-stopped : (names : Names) (files : List NamedFile) (faults : Faults) (status : Status) → IsQuiet faults → StopsIn (record { told = Some names; faults = faults }) files status →
    status ≢ Memory → told_contents names files ≡ Err status
told-stopped names files faults status quiet stop other =
    ap (told_contents names) stop.place
    ∙ stopped-behind names stop.before stop.behind stop.file stop.contents status stop.read (stops-refused names faults stop.file status quiet stop.stop other)

-- one file more was read
pub read-next : (told : Option Names) (named : List NamedFile) (i : ℕ) (file : NamedFile) (contents : List (List ℕ)) (bytes : List ℕ) → i < length named →
    file ≡ get_or named i file → AreRead told (take i named) contents → IsRead told file bytes → AreRead told (take (i + 1) named) (contents ++ bytes ∷ [])
read-next told named i file contents bytes within at read one =
    let up : i + 1 ≡ suc i = omega arith in
    let grows : take (i + 1) named ≡ take i named ++ file ∷ [] =
    ap (λ n. take n named) up ∙ take-suc named i file within ∙ ap (λ f. take i named ++ f ∷ []) (sym at) in
    subst (λ files. AreRead told files (contents ++ bytes ∷ [])) (sym grows) (read-append told (take i named) contents file bytes read one)

-- all were
pub read-all : (told : Option Names) (named : List NamedFile) (i : ℕ) (contents : List (List ℕ)) → length named ≤ i → AreRead told (take i named) contents → AreRead told named contents
read-all told named i contents all read = subst (λ files. AreRead told files contents) (take_all i named all) read

-- the next could not be
pub stops-next : (told now : Option Names) (f g h : ℕ) (named : List NamedFile) (i : ℕ) (file : NamedFile) (contents : List (List ℕ)) (status : Status) → i < length named →
    file ≡ get_or named i file → AreRead told (take i named) contents → now ≡ told → f ≤ g → StopsAt (record { told = now; faults = record { before = g; after = h } }) file status →
    StopsIn (record { told = told; faults = record { before = f; after = h } }) named status
stops-next told now f g h named i file contents status within at read same earlier stop =
    let P : Option Names → Type 0 = λ t. IsLoad (holding_of t file.name) (limit_of file.role) g h (Err stop.fault) in
    record {
      before = take i named;
      file = file;
      behind = drop (suc i) named;
      place = sym (take-append-drop i named) ∙ ap (λ rest. take i named ++ rest) (drop-cons named i file within ∙ ap (λ f. f ∷ drop (suc i) named) (sym at));
      contents = contents;
      read = read;
      stop = record {
        fault = stop.fault;
        load = load-since (holding_of told file.name) (limit_of file.role) f g h stop.fault earlier (subst P same stop.load);
        same = stop.same;
      };
    }

pub if-err-through : {T : Type 0} (P : Status → Type 0) (result : Result T Status) (status : Status) → (y : Status) × (result ≡ Err y) × (y ≡ status) → P status → IfErr result P
if-err-through P result status left is = subst (λ r. IfErr r P) (sym (left.1 ∙ ap Err left.2)) is
