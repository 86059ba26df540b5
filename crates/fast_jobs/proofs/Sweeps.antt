-- From what a sweep has of its machines, in their order, to its lines.
use Rattle.std.proofs.Common.{◌≡◌, ◌≤◌, ◌<◌, ◌+◌, ◌-◌, ℕ, zero, suc, List, [], ◌∷◌, ◌++◌, length, map, take, drop, get_or, Option, Some, None, Ok, Err, All, refl, ap, sym, ◌∙◌, subst, append_assoc, arith, nat_lt, if◌then◌else◌, true, false}
use Rattle.std.proofs.lemmas.List.{append-nil, take-map, take_all}
use Rattle.std.proofs.lemmas.List.Elements.{All-append}
use Rattle.std.proofs.lemmas.List.{map-append}
use Rattle.std.specs.Option.{option_to_list}
use Rattle.device_bus.specs.declared.kind.DeviceKind.{DeviceKind}
use Rattle.device_bus.specs.declared.kind.DeviceKind.TheVariants.{Console, Timer, Finisher}
use Rattle.device_bus.specs.Bus.{AreSets, device_order, sets_order}
use Rattle.mono_model.specs.declared.setup.Setup.{Setup}
use Rattle.mono_model.specs.declared.final_state.Final.{Final}
use Rattle.mono_model.specs.Report.{joined}
use Rattle.sweep_runs.specs.declared.job.Job.{Job}
use Rattle.report_text.specs.SweepText.{is_sweep_refusal}
use Rattle.report_text.specs.declared.status.Status.{Status}
use Rattle.report_text.specs.declared.status.Status.TheVariants.{Sets}
use Rattle.fast_cli.specs.declared.line.Options.{Options}
use Rattle.fast_cli.specs.declared.line.Pipeline.{Pipeline}
use Rattle.fast_jobs.specs.declared.sweep_files.NamedMachine.{NamedMachine}
use Rattle.fast_jobs.specs.declared.sweep_files.SweepFiles.{SweepFiles}
use Rattle.fast_jobs.specs.Stages.{bytes_at}
use Rattle.fast_jobs.specs.SweepFiles.{AreTold, HasLine, HasSets, IsSoundOn, finals_behind, last_on, limits_of, machine_setup, machine_told, named_machines, next_line, run_told, sweep_files, sweep_lines, swept, told_line, told_lines}

-- fewer sets of devices are there too
pub sets-fewer : (more fewer : ℕ) (kinds : List DeviceKind) → fewer ≤ more → HasSets more kinds → HasSets fewer kinds
sets-fewer more fewer kinds less has = record { sets = has.sets; enough = omega arith; order = has.order }

left-of : (least sets : ℕ) (a b c : DeviceKind) (kinds : List DeviceKind) → least + 1 ≤ sets
    → a ∷ b ∷ c ∷ kinds ≡ sets_order sets → HasSets least kinds
left-of least zero a b c kinds enough order = absurd (omega arith)
left-of least (suc sets) a b c kinds enough order =
    let parts : a ∷ b ∷ c ∷ kinds ≡ Console ∷ Timer ∷ Finisher ∷ sets_order sets = order in
    record { sets = sets; enough = omega arith; order = cc }

-- the sets behind the first
pub sets-left : (least : ℕ) (a b c : DeviceKind) (kinds : List DeviceKind)
    → HasSets (least + 1) (a ∷ b ∷ c ∷ kinds) → HasSets least kinds
sets-left least a b c kinds has = left-of least has.sets a b c kinds has.enough has.order

taken-of : (sets : ℕ) (a b c : DeviceKind) (kinds : List DeviceKind) → 1 ≤ sets
    → a ∷ b ∷ c ∷ kinds ≡ sets_order sets → a ∷ b ∷ c ∷ [] ≡ device_order
taken-of zero a b c kinds some order = absurd (omega arith)
taken-of (suc sets) a b c kinds some order =
    let parts : a ∷ b ∷ c ∷ kinds ≡ Console ∷ Timer ∷ Finisher ∷ sets_order sets = order in
    let first : a ∷ b ∷ c ∷ [] ≡ Console ∷ Timer ∷ Finisher ∷ [] = cc in
    first

-- the first of them
pub set-taken : (a b c : DeviceKind) (kinds : List DeviceKind) → HasSets 1 (a ∷ b ∷ c ∷ kinds)
    → a ∷ b ∷ c ∷ [] ≡ device_order
set-taken a b c kinds has = taken-of has.sets a b c kinds has.enough has.order

first-of : (sets : ℕ) (kinds : List DeviceKind) → 1 ≤ sets → kinds ≡ sets_order sets → take 3 kinds ≡ device_order
first-of zero kinds some order = absurd (omega arith)
first-of (suc sets) kinds some order = ap (λ (ks : List DeviceKind). take 3 ks) order

pub first-set : {D : Type 0} (kind : D → DeviceKind) (sets : ℕ) (devices : List D) → AreSets sets (map kind devices)
    → map kind (take 3 devices) ≡ device_order
first-set kind sets devices are = sym (take-map kind 3 devices) ∙ first-of sets (map kind devices) are.some are.order

-- what is told of machines, and of others behind them, is told of all
pub told-append : (files : SweepFiles) (machines others : List NamedMachine) (refusals more : List (Option Status)) (finals later : List Final)
    → AreTold files machines refusals finals → AreTold files others more later → AreTold files (machines ++ others) (refusals ++ more) (finals ++ later)
told-append files [] others [] more [] later told rest = rest
told-append files [] others [] more (last ∷ finals) later told rest = absurd told
told-append files [] others (refusal ∷ refusals) more finals later told rest = absurd told
told-append files (machine ∷ machines) others [] more finals later told rest = absurd told
told-append files (machine ∷ machines) others (Some status ∷ refusals) more finals later told rest =
    (told.0, told-append files machines others refusals more finals later told.1 rest)
told-append files (machine ∷ machines) others (None ∷ refusals) more [] later told rest = absurd told
told-append files (machine ∷ machines) others (None ∷ refusals) more (last ∷ finals) later told rest =
    (told.0, told-append files machines others refusals more finals later told.1 rest)

-- one machine more, with a run
pub told-run : (files : SweepFiles) (machines : List NamedMachine) (refusals : List (Option Status)) (finals : List Final) (machine : NamedMachine) (setup : Setup)
    → AreTold files machines refusals finals → machine_setup files machine.bytes ≡ Ok setup
    → AreTold files (machines ++ machine ∷ []) (refusals ++ None ∷ []) (finals ++ last_on files.pipeline setup ∷ [])
told-run files machines refusals finals machine setup told made =
    told-append files machines (machine ∷ []) refusals (None ∷ []) finals (last_on files.pipeline setup ∷ []) told (ap (run_told files.pipeline) made, tt)

-- or with none
pub told-refusal : (files : SweepFiles) (machines : List NamedMachine) (refusals : List (Option Status)) (finals : List Final) (machine : NamedMachine) (status : Status)
    → AreTold files machines refusals finals → machine_setup files machine.bytes ≡ Err status
    → AreTold files (machines ++ machine ∷ []) (refusals ++ Some status ∷ []) finals
told-refusal files machines refusals finals machine status told refused =
    let more : AreTold files (machines ++ machine ∷ []) (refusals ++ Some status ∷ []) (finals ++ []) =
    told-append files machines (machine ∷ []) refusals (Some status ∷ []) finals [] told (ap (run_told files.pipeline) refused, tt) in
    subst (λ (reports : List Final). AreTold files (machines ++ machine ∷ []) (refusals ++ Some status ∷ []) reports) (append-nil finals) more

-- the lines of what is told are those of the sweep
lines-told : (files : SweepFiles) (machines : List NamedMachine) (refusals : List (Option Status)) (finals : List Final) → AreTold files machines refusals finals
    → told_lines machines refusals finals ≡ joined (map (λ machine. told_line machine (machine_told files machine)) machines)
lines-told files [] [] [] told = refl
lines-told files [] [] (last ∷ finals) told = absurd told
lines-told files [] (refusal ∷ refusals) finals told = absurd told
lines-told files (machine ∷ machines) [] finals told = absurd told
lines-told files (machine ∷ machines) (Some status ∷ refusals) finals told =
    let rest = lines-told files machines refusals finals told.1 in
    λ i. told_line machine (sym told.0 i) ++ rest i
lines-told files (machine ∷ machines) (None ∷ refusals) [] told = absurd told
lines-told files (machine ∷ machines) (None ∷ refusals) (last ∷ finals) told =
    let rest = lines-told files machines refusals finals told.1 in
    λ i. told_line machine (sym told.0 i) ++ rest i

pub lines-swept : (files : SweepFiles) (refusals : List (Option Status)) (finals : List Final) → AreTold files files.machines refusals finals
    → told_lines files.machines refusals finals ≡ sweep_lines files
unfolding sweep_lines
lines-swept files refusals finals told = lines-told files files.machines refusals finals told

-- the file at a place is the first of those from there on
pub at-drop : (i : ℕ) (contents : List (List ℕ)) → bytes_at (drop i contents) 0 ≡ bytes_at contents i
at-drop zero contents = refl
at-drop (suc i) [] = refl
at-drop (suc i) (b ∷ contents) = at-drop i contents

at-suc : (contents : List (List ℕ)) (i : ℕ) → bytes_at (drop 1 contents) i ≡ bytes_at contents (suc i)
at-suc [] zero = refl
at-suc [] (suc i) = refl
at-suc (b ∷ contents) i = refl

behind-next : (i : ℕ) (contents : List (List ℕ)) → drop 1 (drop i contents) ≡ drop (suc i) contents
behind-next zero contents = refl
behind-next (suc i) [] = refl
behind-next (suc i) (bytes ∷ contents) = behind-next i contents

-- one name more, with its machine file
named-suc : (names contents : List (List ℕ)) (i : ℕ) (name : List ℕ) → i < length names → name ≡ get_or names i name
    → named_machines (take (suc i) names) contents ≡ named_machines (take i names) contents ++ record { name = name; bytes = bytes_at contents i } ∷ []
named-suc [] contents i name within at = absurd (omega (arith, within))
named-suc (n ∷ names) contents zero name within at =
    let first : name ≡ n = at in
    ap (λ (text : List ℕ). record { name = text; bytes = bytes_at contents 0 } ∷ []) (sym first)
named-suc (n ∷ names) contents (suc i) name within at =
    let place : bytes_at (drop 1 contents) i ≡ bytes_at contents (suc i) = at-suc contents i in
    ap (λ (machines : List NamedMachine). record { name = n; bytes = bytes_at contents 0 } ∷ machines)
    (named-suc names (drop 1 contents) i name (omega (arith, within)) at
    ∙ ap (λ (bytes : List ℕ). named_machines (take i names) (drop 1 contents) ++ record { name = name; bytes = bytes } ∷ []) place)

pub named-next : (names contents left : List (List ℕ)) (i : ℕ) (name bytes : List ℕ) → i < length names → name ≡ get_or names i name
    → left ≡ drop i contents → bytes ≡ bytes_at left 0
    → named_machines (take (i + 1) names) contents ≡ named_machines (take i names) contents ++ record { name = name; bytes = bytes } ∷ []
named-next names contents left i name bytes within at behind next =
    let up : i + 1 ≡ suc i = omega arith in
    let place : bytes ≡ bytes_at contents i = next ∙ ap (λ (cs : List (List ℕ)). bytes_at cs 0) behind ∙ at-drop i contents in
    ap (λ (n : ℕ). named_machines (take n names) contents) up ∙ named-suc names contents i name within at
    ∙ ap (λ (bs : List ℕ). named_machines (take i names) contents ++ record { name = name; bytes = bs } ∷ []) (sym place)

pub left-next : (contents left after : List (List ℕ)) (i : ℕ) → left ≡ drop i contents → after ≡ drop 1 left → after ≡ drop (i + 1) contents
left-next contents left after i behind next =
    let up : suc i ≡ i + 1 = omega arith in
    next ∙ ap (drop 1) behind ∙ behind-next i contents ∙ ap (λ (n : ℕ). drop n contents) up

-- a list from which the next item was taken
pub items-next : {A : Type 0} (old new : List A) (next : Option A) (item : A) → old ≡ option_to_list next ++ new → next ≡ Some item → old ≡ item ∷ new
items-next old new next item items is = items ∙ ap (λ found. option_to_list found ++ new) is

-- three items were added to none
pub three-items : {A : Type 0} (none one two three : List A) (x y z : A) → none ≡ [] → one ≡ none ++ x ∷ [] → two ≡ one ++ y ∷ [] → three ≡ two ++ z ∷ []
    → three ≡ x ∷ y ∷ z ∷ []
three-items none one two three x y z empty first second third =
    third ∙ ap (λ items. items ++ z ∷ []) (second ∙ ap (λ items. items ++ y ∷ []) (first ∙ ap (λ items. items ++ x ∷ []) empty))

-- the devices that were taken are a set, and those behind them are the other sets
pub taken-set : {D : Type 0} (kind : D → DeviceKind) (old rest set : List D) (x y z : D) → old ≡ x ∷ y ∷ z ∷ rest → set ≡ x ∷ y ∷ z ∷ []
    → HasSets 1 (map kind old) → map kind set ≡ device_order
taken-set kind old rest set x y z items taken has =
    ap (map kind) taken ∙ set-taken (kind x) (kind y) (kind z) (map kind rest) (subst (λ devices. HasSets 1 (map kind devices)) items has)

pub taken-rest : {D : Type 0} (kind : D → DeviceKind) (old rest : List D) (x y z : D) → old ≡ x ∷ y ∷ z ∷ rest
    → (least : ℕ) → HasSets (least + 1) (map kind old) → HasSets least (map kind rest)
taken-rest kind old rest x y z items least has =
    sets-left least (kind x) (kind y) (kind z) (map kind rest) (subst (λ devices. HasSets (least + 1) (map kind devices)) items has)

-- what is told of a batch carries over what is told with the machines that are left
pub told-batch : (files : SweepFiles) (all before next rest : List NamedMachine) (old new batch : List (Option Status)) (earlier later reports : List Final)
    → before ≡ next ++ rest → new ≡ old ++ batch → later ≡ earlier ++ reports → AreTold files next batch reports
    → ((refusals : List (Option Status)) (finals : List Final) → AreTold files before refusals finals → AreTold files all (old ++ refusals) (earlier ++ finals))
    → (refusals : List (Option Status)) (finals : List Final) → AreTold files rest refusals finals → AreTold files all (new ++ refusals) (later ++ finals)
told-batch files all before next rest old new batch earlier later reports parts more further told so_far refusals finals behind =
    let joined : AreTold files before (batch ++ refusals) (reports ++ finals) =
    subst (λ machines. AreTold files machines (batch ++ refusals) (reports ++ finals)) (sym parts) (told-append files next rest batch refusals reports finals told behind) in
    let whole : AreTold files all (old ++ (batch ++ refusals)) (earlier ++ (reports ++ finals)) = so_far (batch ++ refusals) (reports ++ finals) joined in
    let each : old ++ (batch ++ refusals) ≡ new ++ refusals = sym (append_assoc old batch refusals) ∙ ap (λ (rs : List (Option Status)). rs ++ refusals) (sym more) in
    let ends : earlier ++ (reports ++ finals) ≡ later ++ finals = sym (append_assoc earlier reports finals) ∙ ap (λ (fs : List Final). fs ++ finals) (sym further) in
    subst (λ rs. AreTold files all rs (later ++ finals)) each (subst (λ fs. AreTold files all (old ++ (batch ++ refusals)) fs) ends whole)

none-left : (files : SweepFiles) (machines : List NamedMachine) → length machines ≡ 0 → AreTold files machines [] []
none-left files [] none = tt
none-left files (machine ∷ machines) none = absurd (omega (arith, none))

-- and at last all is
pub told-last : (files : SweepFiles) (all left : List NamedMachine) (refusals : List (Option Status)) (finals : List Final) → length left ≡ 0
    → ((more : List (Option Status)) (later : List Final) → AreTold files left more later → AreTold files all (refusals ++ more) (finals ++ later))
    → AreTold files all refusals finals
told-last files all left refusals finals none so_far =
    let whole : AreTold files all (refusals ++ []) (finals ++ []) = so_far [] [] (none-left files left none) in
    subst (λ rs. AreTold files all rs finals) (append-nil refusals) (subst (λ fs. AreTold files all (refusals ++ []) fs) (append-nil finals) whole)

-- what a sweep is asked for
pub swept-made : (names : List (List ℕ)) (pipeline : Pipeline) (options : Options) (sets : ℕ) (contents : List (List ℕ)) (image : List ℕ) (machines : List NamedMachine) (input : List ℕ)
    → length names ≤ sets → image ≡ bytes_at contents 0 → machines ≡ named_machines names (drop 1 contents) → input ≡ bytes_at contents (length names + 1)
    → swept names pipeline options sets contents ≡ Ok (record { image = image; machines = machines; input = input; pipeline = pipeline; limits = limits_of options })
unfolding swept
swept-made names pipeline options sets contents image machines input enough first each last =
    let test : nat_lt sets (length names) ≡ false = grind (arith, enough) in
    ap (λ b. if b then Err (Sets (length names)) else Ok (sweep_files names pipeline options contents)) test
    ∙ λ i. Ok (record { image = sym first i; machines = sym each i; input = sym last i; pipeline = pipeline; limits = limits_of options })

pub swept-refused : (names : List (List ℕ)) (pipeline : Pipeline) (options : Options) (sets : ℕ) (contents : List (List ℕ)) → sets < length names
    → swept names pipeline options sets contents ≡ Err (Sets (length names))
unfolding swept
swept-refused names pipeline options sets contents more =
    let test : nat_lt sets (length names) ≡ true = grind (arith, more) in
    ap (λ b. if b then Err (Sets (length names)) else Ok (sweep_files names pipeline options contents)) test

-- three items were taken
pub items-three : {A : Type 0} (old one two rest : List A) (a b c : Option A) (x y z : A) → old ≡ option_to_list a ++ one → a ≡ Some x
    → one ≡ option_to_list b ++ two → b ≡ Some y → two ≡ option_to_list c ++ rest → c ≡ Some z → old ≡ x ∷ y ∷ z ∷ rest
items-three {A} old one two rest a b c x y z first is_x second is_y third is_z =
    items-next old one a x first is_x
    ∙ ap (λ (items : List A). x ∷ items) (items-next one two b y second is_y)
    ∙ ap (λ (items : List A). x ∷ y ∷ items) (items-next two rest c z third is_z)

pub at-behind : (contents : List (List ℕ)) (place : ℕ) → bytes_at (drop 1 contents) place ≡ bytes_at contents (place + 1)
at-behind contents place =
    let up : suc place ≡ place + 1 = omega arith in
    at-suc contents place ∙ ap (bytes_at contents) up

-- where no file is left
pub none-at : (contents : List (List ℕ)) → length contents ≡ 0 → bytes_at contents 0 ≡ []
none-at [] none = refl
none-at (bytes ∷ contents) none = absurd (omega (arith, none))

pub none-behind : (old new : List (List ℕ)) → length old ≡ 0 → length new ≡ 0 → new ≡ drop 1 old
none-behind [] [] none nothing = refl
none-behind [] (bytes ∷ new) none nothing = absurd (omega (arith, nothing))
none-behind (bytes ∷ old) new none nothing = absurd (omega (arith, none))

-- a machine for each name
pub length-named : (names contents : List (List ℕ)) → length (named_machines names contents) ≡ length names
length-named [] contents = refl
length-named (name ∷ names) contents = ap suc (length-named names (drop 1 contents))

-- machines were opened, and what was had of each is in the lists
pub record IsOpened {D : Type 0} (kind : D → DeviceKind) (files : SweepFiles) (machines : List NamedMachine) (refusals : List (Option Status)) (jobs : List (Job D)) : Type 0 where
  pub told : AreTold files machines refusals (map (λ job. last_on files.pipeline job.setup) jobs)
  pub lines : All HasLine refusals
  pub sound : All (λ job. IsSoundOn files.pipeline job.setup) jobs
  pub order : All (λ job. map kind job.devices.items ≡ device_order) jobs

all-one : {A : Type 0} (P : A → Type 0) (x : A) → P x → All P (x ∷ [])
all-one P x here zero other inside = here
all-one P x here (suc k) other inside = absurd (omega (arith, inside))

-- one machine more, with a job
pub opened-run : {D : Type 0} (kind : D → DeviceKind) (files : SweepFiles) (machines grown : List NamedMachine) (refusals more : List (Option Status)) (jobs further : List (Job D))
    (machine : NamedMachine) (job : Job D) → grown ≡ machines ++ machine ∷ [] → more ≡ refusals ++ None ∷ [] → further ≡ jobs ++ job ∷ []
    → IsOpened kind files machines refusals jobs → machine_setup files machine.bytes ≡ Ok job.setup → IsSoundOn files.pipeline job.setup → map kind job.devices.items ≡ device_order
    → IsOpened kind files grown more further
opened-run {D} kind files machines grown refusals more jobs further machine job named none added opened made sound order =
    let lasts : List (Job D) → List Final = map (λ j. last_on files.pipeline j.setup) in
    let reports : lasts further ≡ lasts jobs ++ last_on files.pipeline job.setup ∷ [] = ap lasts added ∙ map-append (λ (j : Job D). last_on files.pipeline j.setup) jobs (job ∷ []) in
    let told : AreTold files (machines ++ machine ∷ []) (refusals ++ None ∷ []) (lasts jobs ++ last_on files.pipeline job.setup ∷ []) =
    told-run files machines refusals (lasts jobs) machine job.setup opened.told made in
    record {
      told = subst (λ ms. AreTold files ms more (lasts further)) (sym named) (subst (λ rs. AreTold files (machines ++ machine ∷ []) rs (lasts further)) (sym none)
          (subst (λ fs. AreTold files (machines ++ machine ∷ []) (refusals ++ None ∷ []) fs) (sym reports) told));
      lines = subst (All HasLine) (sym none) (All-append HasLine refusals (None ∷ []) opened.lines (all-one HasLine None tt));
      sound = subst (All (λ j. IsSoundOn files.pipeline j.setup)) (sym added) (All-append (λ (j : Job D). IsSoundOn files.pipeline j.setup) jobs (job ∷ []) opened.sound (all-one (λ (j : Job D). IsSoundOn files.pipeline j.setup) job sound));
      order = subst (All (λ j. map kind j.devices.items ≡ device_order)) (sym added)
          (All-append (λ (j : Job D). map kind j.devices.items ≡ device_order) jobs (job ∷ []) opened.order (all-one (λ (j : Job D). map kind j.devices.items ≡ device_order) job order));
    }

-- or with none
pub opened-refusal : {D : Type 0} (kind : D → DeviceKind) (files : SweepFiles) (machines grown : List NamedMachine) (refusals more : List (Option Status)) (jobs further : List (Job D))
    (machine : NamedMachine) (status : Status) → grown ≡ machines ++ machine ∷ [] → more ≡ refusals ++ Some status ∷ [] → further ≡ jobs
    → IsOpened kind files machines refusals jobs → machine_setup files machine.bytes ≡ Err status → is_sweep_refusal status ≡ true
    → IsOpened kind files grown more further
opened-refusal {D} kind files machines grown refusals more jobs further machine status named one same opened refused line =
    let lasts : List (Job D) → List Final = map (λ j. last_on files.pipeline j.setup) in
    let told : AreTold files (machines ++ machine ∷ []) (refusals ++ Some status ∷ []) (lasts jobs) =
    told-refusal files machines refusals (lasts jobs) machine status opened.told refused in
    record {
      told = subst (λ ms. AreTold files ms more (lasts further)) (sym named) (subst (λ rs. AreTold files (machines ++ machine ∷ []) rs (lasts further)) (sym one)
          (subst (λ js. AreTold files (machines ++ machine ∷ []) (refusals ++ Some status ∷ []) (lasts js)) (sym same) told));
      lines = subst (All HasLine) (sym one) (All-append HasLine refusals (Some status ∷ []) opened.lines (all-one HasLine (Some status) line));
      sound = subst (All (λ j. IsSoundOn files.pipeline j.setup)) (sym same) opened.sound;
      order = subst (All (λ j. map kind j.devices.items ≡ device_order)) (sym same) opened.order;
    }

all-behind : {A : Type 0} (items : List A) → take (suc (length items) - 1) items ≡ items
all-behind items = take_all (suc (length items) - 1) items (omega arith)

-- the line of the first machine, and those behind it
pub lines-next : (machines : List NamedMachine) (refusals : List (Option Status)) (finals : List Final) (machine : NamedMachine) (refusal : Option Status)
    → 1 ≤ length machines → machine ≡ get_or machines 0 machine → 1 ≤ length refusals → refusal ≡ get_or refusals 0 refusal
    → next_line machine refusal finals ++ told_lines (take (length machines - 1) (drop 1 machines)) (take (length refusals - 1) (drop 1 refusals)) (finals_behind refusal finals)
    ≡ told_lines machines refusals finals
lines-next [] refusals finals machine refusal some first any next = absurd (omega (arith, some))
lines-next (m ∷ machines) [] finals machine refusal some first any next = absurd (omega (arith, any))
lines-next (m ∷ machines) (r ∷ refusals) finals machine refusal some first any next =
    let one : machine ≡ m = first in
    let its : refusal ≡ r = next in
    λ i. next_line (one i) (its i) finals ++ told_lines (all-behind machines i) (all-behind refusals i) (finals_behind (its i) finals)
