-- The text of a page that may have some.
use Rattle.std.specs.Prelude.{ℕ, Bool, false, slice_index, Option, Some, None}
use Rattle.std.specs.Global.{Box}
use Rattle.phys_mem.specs.declared.page.TextPage.{TextPage}
use Rattle.phys_mem.specs.PageBytes.{is_marked}

-- whether the byte at an offset is text
abbrev pub marked_in : Option (Box TextPage) → ℕ → Bool
marked_in None offset = false
marked_in (Some text) offset = is_marked text.value.marks offset

-- the byte of the copy, if there is one
abbrev pub copied_in : Option (Box TextPage) → ℕ → ℕ
copied_in None offset = 0
copied_in (Some text) offset = slice_index text.value.bytes offset
