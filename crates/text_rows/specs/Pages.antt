-- The pages of RAM, of 4,096 bytes each, that hold a word of text: an address that is a multiple of 4 and whose four bytes
-- lie in executable segments.
use Rattle.std.specs.Prelude.{ℕ, ◌+◌, ◌*◌, ◌/◌, Bool, count_by}
use Rattle.std.specs.List.{list_any, range_with_len}
use Rattle.fsim_base.specs.declared.access.RamRange.{RamRange}
use Rattle.elf_image.specs.declared.image.Image.{Image}
use Rattle.mono_model.specs.Found.{has_text}

-- the page that begins at an address holds a word of text
unfoldable pub holds_text : Image → ℕ → Bool
holds_text image page = list_any (λ word. has_text image (page + 4 * word)) (range_with_len 0 1024)

-- how many pages of RAM do
unfoldable pub text_pages : Image → RamRange → ℕ
text_pages image ram =
    count_by (λ page. holds_text image (ram.base + 4096 * page)) (range_with_len 0 (ram.size / 4096))
