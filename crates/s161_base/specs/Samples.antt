use Rattle.std.specs.Prelude.{◌≡◌, ℕ, if◌then◌else◌, bytes_eq, codes, false, List, [], ◌∷◌, Option, Some}
use Rattle.m161_asm.specs.Text.{Segment}
use Rattle.m161_elf_writer.specs.Written.{elf_bytes}

-- The image whose name is `@sample`: a kernel of two processors.

-- its entry
abbrev pub sample_entry : ℕ
sample_entry = 0x80000200

-- the handler of a miss below 80000000
abbrev pub miss_words : List ℕ
miss_words =
    0x3c1a8000 ∷ 0x8f5a3000 ∷ 0x409a1000 ∷ 0x42000006 ∷ 0x401b7000 ∷ 0x03600008 ∷ 0x42000010 ∷ []

-- the handler of every other trap
abbrev pub trap_words : List ℕ
trap_words =
    0x42000008 ∷ 0x40180000 ∷ 0x40195000 ∷ 0x07000007 ∷ 0x0018c100 ∷ 0x3c1a8000 ∷ 0x031ac025
    ∷ 0x40985000 ∷ 0x40801000 ∷ 0x42000002 ∷ 0x40995000 ∷ 0x3c1abfff ∷ 0x375a8400 ∷ 0xaf400004
    ∷ 0x3c1a8000 ∷ 0x241b0001 ∷ 0xaf5b3008 ∷ 0x401b7000 ∷ 0x03600008 ∷ 0x42000010 ∷ []

-- the code of processor 0
abbrev pub first_words : List ℕ
first_words =
    0x3c088000 ∷ 0x34095600 ∷ 0xad093000 ∷ 0x3c0abfff ∷ 0x354b8400 ∷ 0x3c0c8000 ∷ 0x358c0280
    ∷ 0xad6c0300 ∷ 0x340d0002 ∷ 0x354e7c00 ∷ 0xadcd0214 ∷ 0x8d0f300c ∷ 0x11e0fffe ∷ 0x00000000
    ∷ 0x34096600 ∷ 0xad093000 ∷ 0xad6d0004 ∷ 0x8d0f3008 ∷ 0x11e0fffe ∷ 0x00000000 ∷ 0xad0d3004
    ∷ 0x8d0f3010 ∷ 0x11e0fffe ∷ 0x00000000 ∷ 0xadc00208 ∷ []

-- the code of processor 1
abbrev pub second_words : List ℕ
second_words =
    0x34080140 ∷ 0x40885000 ∷ 0x34080801 ∷ 0x3c090040 ∷ 0x3c0a8000 ∷ 0x340c0001 ∷ 0x8d2b0000
    ∷ 0xad4c300c ∷ 0x8d2b0000 ∷ 0x40886000 ∷ 0x40806000 ∷ 0x1160fffc ∷ 0x00000000 ∷ 0xad4b3010
    ∷ 0x42000020 ∷ 0x1000fffe ∷ 0x00000000 ∷ []

-- the first word of the frame to which the page moves
abbrev pub frame_words : List ℕ
frame_words = 7 ∷ []

abbrev pub sample_segments : List Segment
sample_segments =
    (0x80000000, miss_words) ∷ (0x80000080, trap_words) ∷ (0x80000200, first_words)
    ∷ (0x80000280, second_words) ∷ (0x80006000, frame_words) ∷ []

-- the labels of its source, in their order, with their addresses
abbrev pub sample_labels : List (List ℕ × ℕ)
sample_labels =
    (codes "ack", 0x800000ac) ∷ (codes "main", 0x80000200) ∷ (codes "ready", 0x8000022c)
    ∷ (codes "acked", 0x80000244) ∷ (codes "last", 0x80000254) ∷ (codes "again", 0x800002a0)
    ∷ (codes "stop", 0x800002b8) ∷ []

unfoldable pub sample_file : List ℕ
sample_file = elf_bytes sample_entry sample_segments

-- the bytes of an image's file, if they are known: those of the sample by its name, else those of
-- the source of files
unfoldable pub image_file : (List ℕ → Option (List ℕ)) → List ℕ → Option (List ℕ)
image_file known name = if bytes_eq name (codes "@sample") then Some sample_file else known name

-- the name is that of a file, and not the sample's
unfoldable pub IsFileName : List ℕ → Type 0
IsFileName name = bytes_eq name (codes "@sample") ≡ false
