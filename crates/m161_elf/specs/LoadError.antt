use Rattle.std.specs.Prelude.{ℕ, List, codes}
use Rattle.m161_elf.specs.declared.image.LoadError.{LoadError}
use Rattle.m161_elf.specs.declared.image.LoadError.TheVariants.{Truncated, NotElf32Big, NotExecutable, NotMips, BadHeaderTable, SegmentOutsideFile, SegmentOutsideRam, FileLargerThanMemory, BadEntry, NoMemory}

-- A fault's number, its place in their order, and its name.

abbrev pub number_of_fault : LoadError → ℕ
number_of_fault Truncated = 1
number_of_fault NotElf32Big = 2
number_of_fault NotExecutable = 3
number_of_fault NotMips = 4
number_of_fault BadHeaderTable = 5
number_of_fault SegmentOutsideFile = 6
number_of_fault SegmentOutsideRam = 7
number_of_fault FileLargerThanMemory = 8
number_of_fault BadEntry = 9
number_of_fault NoMemory = 10

abbrev pub name_of_fault : LoadError → List ℕ
name_of_fault Truncated = codes "Truncated"
name_of_fault NotElf32Big = codes "NotElf32Big"
name_of_fault NotExecutable = codes "NotExecutable"
name_of_fault NotMips = codes "NotMips"
name_of_fault BadHeaderTable = codes "BadHeaderTable"
name_of_fault SegmentOutsideFile = codes "SegmentOutsideFile"
name_of_fault SegmentOutsideRam = codes "SegmentOutsideRam"
name_of_fault FileLargerThanMemory = codes "FileLargerThanMemory"
name_of_fault BadEntry = codes "BadEntry"
name_of_fault NoMemory = codes "NoMemory"
