-- What is asked of breakpoints and watchpoints.
use Rattle.std.specs.Prelude.{◌≡◌, ℕ, ◌<◌, ◌≤◌, ◌==◌, ◌&&◌, not, max, Bool, true, false, List, ◌∷◌, []}
use Rattle.std.specs.Prelude.{◌++◌, find, length, if◌then◌else◌, Option, Some, None}
use Rattle.std.specs.List.{list_any, range_with_len}
use Rattle.fsim_base.specs.Width.{width_bytes}
use Rattle.fsim_base.specs.declared.access.Access.{Access}
use Rattle.fsim_base.specs.declared.access.Access.TheVariants as access
use Rattle.gdb_packets.specs.declared.packet.Point.{Point}
use Rattle.gdb_model.specs.Session.{is_break, is_over, watches_loads, watches_stores}
use Rattle.gdb_model.specs.Talk.{is_same, points_limit}

-- a breakpoint is at an address
abbrev pub is_break_at : ℕ → Point → Bool
is_break_at address point = is_break point.kind && point.address == address

-- there is a watchpoint
abbrev pub is_watching : List Point → Bool
is_watching points = list_any (λ point. not (is_break point.kind)) points

-- the first of so many bytes that a point is for, if it watches such an access
abbrev pub watched_if : Bool → Point → ℕ → ℕ → Option ℕ
watched_if watches point addr count =
    if watches then find (is_over point) (range_with_len addr count) else None

-- the first byte of an access that a point watches
abbrev pub watched_by : Point → Access → Option ℕ
watched_by point access.Nothing = None
watched_by point (access.Load addr width spot) =
    watched_if (watches_loads point.kind) point addr (width_bytes width)
watched_by point (access.Store addr width spot) =
    watched_if (watches_stores point.kind) point addr (width_bytes width)

-- the greater of two numbers
abbrev pub greater : Option ℕ → Option ℕ → Option ℕ
greater None second = second
greater (Some first) None = Some first
greater (Some first) (Some second) = Some (max first second)

-- what adding a point comes to: it is there already, it is added, or there is no room
pub record IsSet (point : Point) (old new : List Point) (answer : Bool) : Type 0 where
  pub there : list_any (is_same point) old ≡ true → (answer ≡ true) × (new ≡ old)
  pub added : list_any (is_same point) old ≡ false → length old < points_limit
      → (answer ≡ true) × (new ≡ old ++ point ∷ [])
  pub full : list_any (is_same point) old ≡ false → points_limit ≤ length old
      → (answer ≡ false) × (new ≡ old)
