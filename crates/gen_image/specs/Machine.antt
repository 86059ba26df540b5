-- The machine that the soak program runs on, as the text of a machine file.
use Rattle.std.specs.Prelude.{ℕ, List, ◌++◌, codes}

unfoldable pub soak_machine : List ℕ
soak_machine =
    codes "version = 1\n"
    ++ codes "[core]\nfetch = 4\ncommit = 4\nfront = 5\nwindow = 64\nstations = 32\n"
    ++ codes "[alu]\ncount = 3\n"
    ++ codes "[mul]\nlatency = 3\n"
    ++ codes "[div]\nlatency = 20\n"
    ++ codes "[mem]\ncount = 2\nlatency = 2\n"
    ++ codes "[predictor]\nkind = \"gshare\"\ncounters = 4096\nhistory = 12\ntargets = 512\n"
    ++ codes "[icache]\nways = 4\n"
    ++ codes "[dcache]\nways = 4\n"
