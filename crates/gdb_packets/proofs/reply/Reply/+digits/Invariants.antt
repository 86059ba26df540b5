use Rattle.gdb_packets.proofs.reply.Reply.+digits.Given as goal

abbrev pub decreases-digits : goal.decreases-digits
decreases-digits l = l.number
