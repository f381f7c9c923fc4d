mod Compressing
