use Rattle.std.proofs.Common.{◌≡◌, false, nat_le, length, arith}
use Rattle.std.proofs.lemmas.Bool.Decides.{nat_tests}
use Rattle.func_model.specs.Hart.{arch_of}
use Rattle.func_model.proofs.Concluded.{conclude_nothing, conclude_end, conclude_out}
use Rattle.func_model.proofs.hart.Hart.conclude.Goals as goal

pub returns-in-Nothing-clause-arch : goal.returns-in-Nothing-clause-arch
returns-in-Nothing-clause-arch c = λ d. conclude_nothing c.args.limit c.args.next c.args.note (arch_of c.args.self.now d) _ c.in-Nothing.is (c.finish.ensures.arch d)

pub returns-else-len-limit-clause-arch : goal.returns-else-len-limit-clause-arch
unfolding arch_of
returns-else-len-limit-clause-arch c =
    let room : nat_le c.args.limit (length c.args.self.now.output.items) ≡ false = grind (arith, nat_tests) in
    λ d. conclude_out c.args.limit c.args.next c.in-Out.byte c.args.note c.push_reserved.new.self.items (arch_of c.args.self.now d) _ c.in-Out.is room c.push_reserved.ensures.items (c.finish-in-Out.ensures.arch d)

pub returns-in-End-clause-arch : goal.returns-in-End-clause-arch
returns-in-End-clause-arch c = λ d. conclude_end c.args.limit c.args.next c.args.note c.in-End.halt (arch_of c.args.self.now d) _ c.in-End.is (c.finish-in-End.ensures.arch d)
