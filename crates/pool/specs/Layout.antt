-- How one stamp lies in cells of 16 bits: eight cells of header from its place on, then its entries.
use Rattle.std.specs.Prelude.{◌≡◌, ℕ, ◌+◌, ◌*◌, ◌/◌, ◌%◌, List, ◌++◌, length, take, drop, ◌==◌, slice_index, slice_set}
use Rattle.order.specs.Posts.{size}
use Rattle.order.specs.Records.{kind_named}
use Rattle.keeper.specs.Piles.{Stamp, price}
use Rattle.keeper.specs.declared.admit.Header.{Header}

-- The first cell: the mark in its lowest bit, the kind in the next two, the post above them.
unfoldable pub mark_at : List ℕ → ℕ → ℕ
mark_at cells a = slice_index cells a % 2

unfoldable pub code_at : List ℕ → ℕ → ℕ
code_at cells a = slice_index cells a / 2 % 4

unfoldable pub post_at : List ℕ → ℕ → ℕ
post_at cells a = slice_index cells a / 8

-- The next four: the bits of the cover, the lowest first.
unfoldable pub cover_at : List ℕ → ℕ → ℕ
cover_at cells a = slice_index cells (a + 1) + slice_index cells (a + 2) * 65536 + slice_index cells (a + 3) * 4294967296 + slice_index cells (a + 4) * 281474976710656

-- The next: the latest full number.
unfoldable pub full_at : List ℕ → ℕ → ℕ
full_at cells a = slice_index cells (a + 5)

-- The last two: the place of the post's previous stamp, the lower half first.
unfoldable pub link_at : List ℕ → ℕ → ℕ
link_at cells a = slice_index cells (a + 6) + slice_index cells (a + 7) * 65536

-- After the header: an entry for each covered post.
unfoldable pub entries_at : List ℕ → ℕ → List ℕ
entries_at cells a = take (size (cover_at cells a)) (drop (a + 8) cells)

abbrev pub stamp_at : List ℕ → ℕ → Stamp
stamp_at cells a =
    record {
      kind = kind_named (code_at cells a);
      marked = (mark_at cells a == 1);
      cover = cover_at cells a;
      full = full_at cells a;
      entries = entries_at cells a;
    }

-- the place past the stamp at a
unfoldable pub past : List ℕ → ℕ → ℕ
past cells a = a + price (size (cover_at cells a))

-- A header's cells read as the header of an unmarked stamp.
pub record Packs (cells : List ℕ) (post : ℕ) (header : Header) (link : ℕ) : Type 0 where
  pub long : length cells ≡ 8
  pub unmarked : mark_at cells 0 ≡ 0
  pub kind : kind_named (code_at cells 0) ≡ header.kind
  pub posted : post_at cells 0 ≡ post
  pub cover : cover_at cells 0 ≡ header.cover.bits
  pub full : full_at cells 0 ≡ header.full
  pub linked : link_at cells 0 ≡ link

-- cells with a stamp's header and entries written from a on
abbrev pub with_stamp : List ℕ → ℕ → List ℕ → List ℕ → List ℕ
with_stamp cells a header entries = take a cells ++ (header ++ (entries ++ drop (a + 8 + length entries) cells))

-- the first cell of a stamp that is marked
abbrev pub marking : ℕ → ℕ
marking n = n / 2 * 2 + 1

-- cells with the stamp at a marked
abbrev pub with_mark_at : List ℕ → ℕ → List ℕ
with_mark_at cells a = slice_set cells a (marking (slice_index cells a))
