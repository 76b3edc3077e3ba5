use Rattle.std.specs.Prelude.{ℕ, List, Option, None, Some, codes}
use Rattle.m161_asm.specs.declared.error.ErrorKind.{ErrorKind}
use Rattle.m161_asm.specs.declared.error.ErrorKind.TheVariants as asm
use Rattle.m161_cause.specs.declared.cause.Cause.{Cause}
use Rattle.m161_cause.specs.declared.cause.Cause.TheVariants as cause
use Rattle.m161_elf.specs.declared.image.LoadError.{LoadError}
use Rattle.m161_elf.specs.declared.image.LoadError.TheVariants as load
use Rattle.s161_base.specs.declared.fault.Fault.{Fault}
use Rattle.s161_base.specs.declared.fault.Fault.TheVariants.{After, Conf, File, Image, Input, Log, LogImage, LogMachine, Memory, Never, Output, Schedule, Source, Threads, Touches, Watch, Watches, Word}
use Rattle.s161_base.specs.declared.fault.Unloaded.{Unloaded}
use Rattle.s161_base.specs.declared.fault.Unloaded.TheVariants as unloaded
use Rattle.s161_base.specs.declared.fault.Unread.{Unread}
use Rattle.s161_base.specs.declared.fault.Unread.TheVariants.{Failed, NotUtf8, TooLong}

-- What is wrong, or what was wanted, where a command ends early. Of a source's fault and of a segment's
-- the line has more behind it (`detail_of`).

-- of a file that isn't read
abbrev pub of_file : Unread → List ℕ
of_file Failed = codes "the file can't be read"
of_file TooLong = codes "at most 402653184 bytes are read"
of_file NotUtf8 = codes "the file isn't UTF-8"

-- of standard input that isn't read
abbrev pub of_input : Unread → List ℕ
of_input Failed = codes "standard input can't be read"
of_input TooLong = codes "at most 402653184 bytes are read"
of_input NotUtf8 = codes "standard input isn't UTF-8"

-- of an image's file with this fault
abbrev pub of_image : LoadError → List ℕ
of_image load.Truncated = codes "the file is shorter than an ELF header"
of_image load.NotElf32Big = codes "a 32-bit big-endian ELF file is wanted"
of_image load.NotExecutable = codes "an executable file is wanted, of e_type 2"
of_image load.NotMips = codes "a file for MIPS is wanted, of e_machine 8"
of_image load.BadHeaderTable = codes "the program headers don't have 32 bytes each, or end past the file's end"
of_image load.SegmentOutsideFile = codes "a segment's bytes end past the file's end"
of_image load.SegmentOutsideRam = codes "a segment isn't in RAM, by kseg0 or by kseg1"
of_image load.FileLargerThanMemory = codes "a segment has more bytes in the file than in memory"
of_image load.BadEntry = codes "the entry isn't a multiple of 4 in RAM, by kseg0 or by kseg1"
of_image load.NoMemory = codes "memory was refused"

-- of an image that can't be loaded
abbrev pub of_unloaded : Unloaded → List ℕ
of_unloaded (unloaded.Load e) = of_image e
of_unloaded (unloaded.Segment s) = codes "program header"

-- of a text that can't be assembled
abbrev pub of_source : ErrorKind → List ℕ
of_source asm.BadToken = codes "these bytes form no token"
of_source asm.UnknownWord = codes "a statement begins with a directive or the name of an instruction"
of_source asm.BadOperand = codes "another operand or mark is wanted"
of_source asm.OutOfRange = codes "a number, an address, or the number of words or segments is outside its range"
of_source asm.UnknownLabel = codes "no line has this label"
of_source asm.DoubleLabel = codes "an earlier line has this label"
of_source asm.BranchTooFar = codes "the branch or the jump doesn't reach its target"
of_source asm.Overlap = codes "an address of the statement is filled already"
of_source asm.NoMemory = codes "memory was refused"

-- of a run in threads that has no report
abbrev pub of_cause : Cause → List ℕ
of_cause cause.BadQuotas = codes "one quota is wanted for each processor"
of_cause cause.BadBurst = codes "a burst has 1 to 1024 Steps"
of_cause cause.NoMemory = codes "memory was refused"
of_cause cause.NoThread = codes "the system refused a thread"
of_cause (cause.Held p k) = codes "a processor was held at its gate"
of_cause cause.Worn = codes "the machine has accepted as many events as it can count"
of_cause cause.Miscount = codes "a processor's count of Steps isn't its thread's"
of_cause cause.Swapped = codes "the machine isn't the one that was passed in"

-- of a fault; memory that was refused and an output that failed need none
abbrev pub explanation_of : Fault → Option (List ℕ)
explanation_of (File name why) = Some (of_file why)
explanation_of (Schedule n) = Some (codes "a line is s P, s P N, k HH, o, blank or # ..")
explanation_of (Log n) = Some (codes "after m161 log 2 word, m161 log 2 line or m161 log 1 a line is s P ran, s P trap CODE VECTOR, s P idle, s P off, k HH taken or o taken; after m161 log 3 word strict or m161 log 3 line strict also s P conflict I J")
explanation_of LogMachine = Some (codes "an option that is given isn't that of the log's machine")
explanation_of LogImage = Some (codes "the log is that of another image")
explanation_of (Watches n) = Some (codes "a line is w ID PAGE PTE DONE, blank or # ..")
explanation_of (Watch k) = Some (codes "its identifier or its page doesn't exist, or its words aren't two words of RAM")
explanation_of (Never word) = Some (codes "1 to 8 lower case hexadecimal digits, a name of the image's symbols, or NAME+DIGITS")
explanation_of (Touches word) = Some (codes "1 to 8 lower case hexadecimal digits, a name of the image's symbols, or NAME+DIGITS, of a byte of RAM")
explanation_of (After k why) = Some (codes "the machine refuses this event, counted from 0")
explanation_of Conf = Some (codes "RAM has 1 to 4096 pages of 4096 bytes, there are 1 to 32 processors, and a log has 1 to 16777216 entries")
explanation_of (Image why) = Some (of_unloaded why)
explanation_of (Source e) = Some (of_source e.error.kind)
explanation_of (Threads cause) = Some (of_cause cause)
explanation_of (Input why) = Some (of_input why)
explanation_of Word = Some (codes "a word of the command line isn't UTF-8")
explanation_of Memory = None
explanation_of Output = None
