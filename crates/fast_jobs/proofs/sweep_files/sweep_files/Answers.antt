use Rattle.std.proofs.Common.{◌≡◌, ◌≤◌, ◌<◌, ◌+◌, ℕ, List, length, drop, Ok, Err, ap, sym, ◌∙◌, arith}
use Rattle.std.specs.Vec.Iter.{into_iter_items}
use Rattle.fast_cli.specs.declared.line.Options.{Options}
use Rattle.report_text.specs.declared.status.Status.TheVariants.{Sets}
use Rattle.fast_jobs.specs.Stages.{bytes_at}
use Rattle.fast_jobs.specs.SweepFiles.{named_machines}
use Rattle.fast_jobs.proofs.Sweeps.{at-behind, at-drop, length-named, swept-made, swept-refused}
use Rattle.fast_jobs.proofs.sweep_files.sweep_files.Goals as goal

pub returns-then-sets-names-clause-files : goal.returns-then-sets-names-clause-files
returns-then-sets-names-clause-files c = λ other.
    let names = c.args.names.now in
    let many : length c.as_slice-names.result.now ≡ length names = ap length c.as_slice-names.ensures.same in
    let more : c.args.sets < length names = omega (arith, many, c.if-sets-names.true) in
    swept-refused names c.args.pipeline c.args.options.now c.args.sets c.args.contents.items more
    ∙ ap (λ (k : ℕ). Err (Sets k)) (sym many) ∙ ap Err (sym c.new.ensures.same)

pub returns-clause-files : goal.returns-clause-files
returns-clause-files c =
    let names = c.args.names.now in
    let options = c.args.options.now in
    let contents = c.args.contents.items in
    let many : length c.as_slice-names.result.now ≡ length names = ap length c.as_slice-names.ensures.same in
    let enough : length names ≤ c.args.sets = omega (arith, many, c.if-sets-names.false) in
    let image = c.next_file-image.result in
    let machines = c.in_ok-list.list.items in
    let input = c.next_file-input.result in
    let behind : into_iter_items c.next_file-image.new.contents ≡ drop 1 contents = c.next_file-image.ensures.left ∙ ap (drop 1) c.into_iter-contents.ensures.rest in
    let first : image ≡ bytes_at contents 0 = c.next_file-image.ensures.bytes ∙ ap (λ (cs : List (List ℕ)). bytes_at cs 0) c.into_iter-contents.ensures.rest in
    let each : machines ≡ named_machines names (drop 1 contents) = c.in_ok-list.ensures.named ∙ (λ i. named_machines (c.as_slice-names.ensures.same i) (behind i)) in
    let left : into_iter_items c.named_machines.new.contents ≡ drop (length names) (drop 1 contents) = c.in_ok-list.ensures.left ∙ (λ i. drop (many i) (behind i)) in
    let last : input ≡ bytes_at contents (length names + 1) = c.next_file-input.ensures.bytes ∙ ap (λ (cs : List (List ℕ)). bytes_at cs 0) left
    ∙ at-drop (length names) (drop 1 contents) ∙ at-behind contents (length names) in
    swept-made names c.args.pipeline options c.args.sets contents image machines input enough first each last
    ∙ ap (λ (limits : Options). Ok (record { image = image; machines = machines; input = input; pipeline = c.args.pipeline; limits = limits })) (sym c.limits_of.ensures.limits)

pub returns-clause-room : goal.returns-clause-room
returns-clause-room c =
    let names = c.as_slice-names.result.now in
    let many : length c.in_ok-list.list.items ≡ length names = ap length c.in_ok-list.ensures.named ∙ length-named names (into_iter_items c.next_file-image.new.contents) in
    omega (arith, many, c.if-sets-names.false)
