-- A debugger's session: where it stands, and what a run of it stops at.
use Rattle.std.specs.Prelude.{ℕ, ◌+◌, ◌==◌, nat_le, nat_lt, ◌&&◌, ◌||◌, Bool, true, false, List, []}
use Rattle.std.specs.Prelude.{◌∷◌, find, max, if◌then◌else◌, Option, Some, None}
use Rattle.std.specs.List.{filter_map, list_any, range_with_len}
use Rattle.fsim_base.specs.Width.{width_bytes}
use Rattle.fsim_base.specs.declared.access.Access.{Access}
use Rattle.fsim_base.specs.declared.access.Access.TheVariants as access
use Rattle.mono_model.specs.declared.setup.Setup.{Setup}
use Rattle.gdb_packets.specs.declared.packet.Point.{Point}
use Rattle.gdb_packets.specs.declared.packet.PointKind.{PointKind}
use Rattle.gdb_packets.specs.declared.packet.PointKind.TheVariants.{Software, Hardware, Written}
use Rattle.gdb_packets.specs.declared.packet.PointKind.TheVariants.{Read, Accessed}
use Rattle.func_model.specs.Position.{next_address, reach}

pub record Session : Type 0 where
  -- the position, and the oldest that can be gone back to
  pub at : ℕ
  pub floor : ℕ
  -- breakpoints and watchpoints, none of them twice
  pub points : List Point
  -- a position at which runs stop
  pub mark : Option ℕ
  -- how many bytes of output were shown
  pub shown : ℕ
  -- no acknowledgments are wanted
  pub quiet : Bool

abbrev pub start_session : Session
start_session =
    record { at = 0; floor = 0; points = []; mark = None; shown = 0; quiet = false }

abbrev pub is_break : PointKind → Bool
is_break Software = true
is_break Hardware = true
is_break kind = false

abbrev is_marked : Option ℕ → ℕ → Bool
is_marked None at = false
is_marked (Some mark) at = mark == at

-- a breakpoint is at the next address, or the mark at the position
abbrev pub halts : Setup → Session → ℕ → Bool
halts s session at =
    list_any (λ point. is_break point.kind && point.address == next_address s at) session.points
    || is_marked session.mark at

-- which accesses a watchpoint watches
abbrev pub watches_loads : PointKind → Bool
watches_loads Read = true
watches_loads Accessed = true
watches_loads kind = false

abbrev pub watches_stores : PointKind → Bool
watches_stores Written = true
watches_stores Accessed = true
watches_stores kind = false

-- a point is for a byte
abbrev pub is_over : Point → ℕ → Bool
is_over point byte = nat_le point.address byte && nat_lt byte (point.address + point.size)

-- the greatest of some numbers
abbrev pub greatest : List ℕ → Option ℕ
greatest [] = None
greatest (n ∷ ns) = Some (max_from n ns)
  where
    max_from : ℕ → List ℕ → ℕ
    max_from n [] = n
    max_from n (m ∷ ms) = max_from (max n m) ms

-- of each watchpoint the first of so many bytes that it watches, if it watches one; the greatest
-- of these lies in the most of watchpoints within each other
abbrev pub touched : (PointKind → Bool) → List Point → ℕ → ℕ → Option ℕ
touched watches points addr count =
    greatest (filter_map
    (λ point. if watches point.kind then find (is_over point) (range_with_len addr count) else None)
    points)

abbrev pub watched_access : List Point → Access → Option ℕ
watched_access points access.Nothing = None
watched_access points (access.Load addr width spot) =
    touched watches_loads points addr (width_bytes width)
watched_access points (access.Store addr width spot) =
    touched watches_stores points addr (width_bytes width)

-- a watched byte that the step at a position loads or stores
abbrev pub watched : Setup → Session → ℕ → Option ℕ
watched s session at = watched_access session.points (reach s at)
